-- Places on pages in a row to which no entry leads.
use Rattle.std.specs.Prelude.{◌≢◌, ◌≤◌, ◌<◌, ◌+◌, ◌^◌, ℕ, List, Contains, IfSome, slice_get}
use Rattle.std.specs.List.{All}
use Rattle.xid_circle.specs.declared.Tid.{Tid}
use Rattle.index_entries.specs.declared.entry.Entry.{Entry}
use Rattle.entry_columns.specs.declared.gap.Gap.{Gap}
use Rattle.entry_columns.specs.declared.short_tid.ShortTid.{ShortTid}
use Rattle.entry_columns.specs.Columns.{long}

-- the place is on one of the pages, and not the one that is left out
pub record IsInside (gap : Gap) (t : Tid) : Type 0 where
  pub from : gap.from ≤ t.page
  pub to : t.page < gap.to
  pub other : t ≢ long gap.but

-- no entry leads to one of them
abbrev pub AreOutside : Gap → List Entry → Type 0
AreOutside gap entries = All (λ e. ¬ IsInside gap e.tid) entries

-- the numbers of all of these places that have one, of 32 bits, are from the least on, up to so many behind it
abbrev pub AreNumberedWithin : List Tid → ℕ → ℕ → Type 0
AreNumberedWithin tids least more = (p : ShortTid) → p.number < 2 ^ 32 → Contains tids (long p) → (least ≤ p.number) × (p.number ≤ least + more)

-- of these places those from one on, up to another, have numbers of 32 bits, before the least or more than so many behind it
abbrev pub AreOutsideFrom : List ShortTid → ℕ → ℕ → ℕ → ℕ → Type 0
AreOutsideFrom places from to least more = (i : ℕ) → from ≤ i → i < to
    → IfSome (slice_get places i) (λ p. (p.number < 2 ^ 32) × (least ≤ p.number → least + more < p.number))
