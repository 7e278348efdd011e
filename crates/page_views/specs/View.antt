-- Pages as they were at one moment, with what a plan of their pruning needs.
use Rattle.std.specs.Prelude.{ℕ, ◌+◌, List, [], ◌∷◌, map}
use Rattle.std.specs.declared.sync.Arc.{Arc}
use Rattle.std.specs.declared.boxed.Box.{Box}
use Rattle.std.specs.declared.alloc.Global.{Global}
use Rattle.xid_circle.specs.Numbers.{Id, PageNo}
use Rattle.page_slots.specs.View.{PageView}
use Rattle.commit_status.specs.Window.{Window}

pub record PagesAt : Type 0 where
  -- each with its number
  pub pages : List (PageNo × PageView)
  pub statuses : Window
  pub horizon : Id

-- a page that readers share, beside its number
abbrev pub page_behind : ℕ × Arc (Box PageView Global) Global → PageNo × PageView
page_behind page = (page.0, page.1.value.value)

abbrev pub pages_behind : List (ℕ × Arc (Box PageView Global) Global) → List (PageNo × PageView)
pages_behind pages = map page_behind pages

-- each page beside its number, of which this is the first
abbrev pub numbered : (first : PageNo) → List PageView → List (PageNo × PageView)
numbered first [] = []
numbered first (page ∷ pages) = (first, page) ∷ numbered (first + 1) pages
