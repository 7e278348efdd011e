-- What workers have done of their lists.
use Rattle.std.specs.Prelude.{ℕ, ◌≡◌, List, [], ◌∷◌, length, drop, slice_index}
use Rattle.calls.specs.declared.settings.Settings.{Settings}
use Rattle.shared_heap.specs.declared.line.WorkerLine.{WorkerLine}
use Rattle.shared_heap.specs.Books.{BookView, IsBookOf}
use Rattle.shared_heap.specs.Merge.{Merges, list_at}

pub record WorkView : Type 0 where
  pub settings : Settings
  pub lists : List (List WorkerLine)
  pub book : BookView
  pub workers : List ℕ
  pub done : List ℕ

-- what is left of each list, of which so many lines are done
abbrev pub left_of : List (List WorkerLine) → List ℕ → ℕ → List WorkerLine
left_of lists done worker = drop (slice_index done worker) (list_at lists worker)

-- the book's engine was made with these settings, and its journal merges what is done of the lists
pub record IsCarried (w : WorkView) : Type 0 where
  pub made : IsBookOf w.settings w.book
  pub merges : Merges (list_at w.lists) w.workers w.book.journal (left_of w.lists w.done)
  pub counted : length w.done ≡ length w.lists

-- what workers are given by a request of these settings and lists
pub record IsWorkOf (settings : Settings) (lists : List (List WorkerLine)) (w : WorkView) : Type 0 where
  -- the book holds what is done of their lists, and nothing else
  pub carried : IsCarried w
  -- the settings and the lists are those that were asked for
  pub of_settings : w.settings ≡ settings
  pub of_lists : w.lists ≡ lists

-- no line is left
abbrev pub AllDone : WorkView → Type 0
AllDone w = (worker : ℕ) → left_of w.lists w.done worker ≡ []

-- the first line of these
abbrev pub BeginsWith : List WorkerLine → WorkerLine → Type 0
BeginsWith lines line = (more : List WorkerLine) × (lines ≡ line ∷ more)
