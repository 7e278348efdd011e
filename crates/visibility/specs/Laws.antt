-- The laws of visibility: a reader's verdict changes only with ids that it owns or sees.
use Rattle.std.specs.Prelude.{◌≤◌, ℕ, List, Contains, Option, ◌↔◌}
use Rattle.tuple_header.specs.declared.version.Header.{Header}
use Rattle.commit_status.specs.declared.status.Status.{Status}
use Rattle.commit_status.specs.Window.{Window, IsWindow, IsActive, IsGiven, IsUpToNext, next_id, turns}
use Rattle.commit_status.specs.Changes.{Gives, Finishes}
use Rattle.snapshot.specs.Snap.{Snap, Sees, empty_at}
use Rattle.snapshot.specs.Laws.{IsBounded}
use Rattle.visibility.specs.Seeing.{HasCommitted, Reads, Touches}
use Rattle.visibility.specs.Visible.{ReadsIn, IsVisible, IsDead, state_of}

-- an id of the first window is one of the second
abbrev pub StaysKnown : Window → Window → ℕ → Type 0
StaysKnown w v x = IsGiven w x → IsGiven v x

-- a reader's verdicts are the same in two windows: of ids that stay known, and of versions that only such ids made or deleted
pub record SameVerdicts (w v : Window) (s : Snap) (own : List ℕ) : Type 0 where
  pub ids : (x : ℕ) → StaysKnown w v x → ReadsIn v s own x ↔ ReadsIn w s own x
  pub versions : (h : Header) → ((x : ℕ) → Touches x h → StaysKnown w v x) → IsVisible v s own h ↔ IsVisible w s own h

-- all verdicts are, since each id stays known
abbrev pub KeepsVerdicts : Window → Window → Snap → List ℕ → Type 0
KeepsVerdicts w v s own = ((x : ℕ) → StaysKnown w v x) × SameVerdicts w v s own

-- ids that the reader neither owns nor sees take another status
abbrev pub FinishingUnseen : Type 0
FinishingUnseen = (w v : Window) (ids : List ℕ) (status : Status) (s : Snap) (own : List ℕ) → Finishes w v ids status
    → ((x : ℕ) → Contains ids x → ¬ Contains own x) → ((x : ℕ) → Contains ids x → ¬ Sees s w x) → KeepsVerdicts w v s own

-- an id is given
abbrev pub GivingIsUnseen : Type 0
GivingIsUnseen = (w v : Window) (parent : Option ℕ) (s : Snap) (own : List ℕ) → IsWindow w → IsWindow v → Gives w v parent → KeepsVerdicts w v s own

-- Nobody sees a dead version: no reader whose snapshot's xmin is not before the horizon, and whose own ids are in progress.
abbrev pub DeadIsUnseen : Type 0
DeadIsUnseen = (w : Window) (s : Snap) (own : List ℕ) (horizon : ℕ) (h : Header) → IsWindow w → IsBounded w s → IsUpToNext w horizon
    → turns w.first horizon ≤ turns w.first s.xmin → ((x : ℕ) → Contains own x → IsActive w x) → IsDead w horizon h → ¬ IsVisible w s own h

-- Who reads by the snapshot that lists nobody, at the next id, counts its own ids and all that has committed.
abbrev pub ListingNobodyCountsCommitted : Type 0
ListingNobodyCountsCommitted = (w : Window) (own : List ℕ) (x : ℕ) → IsWindow w
    → ReadsIn w (empty_at (next_id w)) own x ↔ Reads (state_of w) (λ x. HasCommitted (state_of w) x) own x
