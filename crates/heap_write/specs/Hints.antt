-- What is known of when versions on the pages may be dead, and where. It changes no answer, only how much is looked at for one.
use Rattle.std.specs.Prelude.{◌≡◌, ◌≢◌, ℕ, ◌≤◌, List, Option, Some, None, slice_index_or}
use Rattle.xid_circle.specs.declared.Tid.{Tid}
use Rattle.page_slots.specs.View.{PageView}
use Rattle.commit_status.specs.Window.{Window, IsAborted, turns}
use Rattle.space_maps.specs.Hints.{PageHint, hint_on, AddsDoubt}
use Rattle.prune.specs.Deaths.{NothingDiesBefore}
use Rattle.prune.specs.Glances.{AreDoubts}
use Rattle.heap_write.specs.Heap.{unused_page}

-- where a turn is known of a page, nothing on it dies before; where doubts are known, nobody deleted a version in another slot, and its
-- inserter was not aborted
pub record AreTrueHints (w : Window) (pages : List PageView) (hints : List PageHint) : Type 0 where
  pub each : (n turn : ℕ) → (hint_on hints n).turn ≡ Some turn → NothingDiesBefore w turn (slice_index_or pages n unused_page).slots
  pub doubts : (n : ℕ) → AreDoubts w (slice_index_or pages n unused_page).slots (hint_on hints n).doubts

-- a turn was known of the page, no earlier than this one, which is no later than that of x: and x is not aborted
pub record IsLowered (w : Window) (x turn : ℕ) (known : Option ℕ) : Type 0 where
  pub was : ℕ
  pub is_known : known ≡ Some was
  pub earlier : turn ≤ was
  pub live : ¬ IsAborted w x
  pub later : turn ≤ turns w.first x

-- where doubts are known, x is not aborted, and the slot is doubtful beside those that were
abbrev pub AreDoubtedBy : Window → ℕ → ℕ → Option (List ℕ) → Option (List ℕ) → Type 0
AreDoubtedBy w x slot known None = Unit {0}
AreDoubtedBy w x slot known (Some after) = (¬ IsAborted w x) × AddsDoubt known slot (Some after)

-- where doubts are known, x is not aborted, and they were known
abbrev pub AreStillDoubts : Window → ℕ → Option (List ℕ) → Option (List ℕ) → Type 0
AreStillDoubts w x known None = Unit {0}
AreStillDoubts w x known (Some after) = (¬ IsAborted w x) × (known ≡ Some after)

-- what is known of a page may stay when x deletes the version at a place on it, and nothing else changes
pub record ExpectsWrite (w : Window) (x : ℕ) (place : Tid) (hints hints' : List PageHint) : Type 0 where
  pub here : (turn : ℕ) → (hint_on hints' place.page).turn ≡ Some turn → IsLowered w x turn (hint_on hints place.page).turn
  pub doubts : AreDoubtedBy w x place.slot (hint_on hints place.page).doubts (hint_on hints' place.page).doubts
  pub others : (m : ℕ) → m ≢ place.page → hint_on hints' m ≡ hint_on hints m

-- what is known of page n stays when x, which is not aborted, makes a root on it, for that has no deleter; and nothing else changes
pub record ExpectsRoot (w : Window) (x n : ℕ) (hints hints' : List PageHint) : Type 0 where
  pub here : (turn : ℕ) → (hint_on hints' n).turn ≡ Some turn → (¬ IsAborted w x) × ((hint_on hints n).turn ≡ Some turn)
  pub doubts : AreStillDoubts w x (hint_on hints n).doubts (hint_on hints' n).doubts
  pub others : (m : ℕ) → m ≢ n → hint_on hints' m ≡ hint_on hints m
