-- From which turn on a version may be dead, as far as a page and the ids tell. (PostgreSQL's pd_prune_xid in
-- src/include/storage/bufpage.h: the oldest id whose work may be pruned once nobody needs what it replaced.)
use Rattle.std.specs.Prelude.{◌≡◌, ◌⊎◌, ℕ, ◌≤◌, List, length, Some}
use Rattle.xid_circle.specs.Numbers.{Id, SlotNo, Count}
use Rattle.page_sheet.specs.declared.slot.Slot.{Slot}
use Rattle.page_sheet.specs.Slots.{version_at}
use Rattle.tuple_header.specs.Version.{Version}
use Rattle.tuple_header.specs.declared.version.Header.{Header}
use Rattle.commit_status.specs.Window.{Window, IsAborted, IsGiven, IsUpToNext, turns}
use Rattle.visibility.specs.Visible.{IsFrozen}
use Rattle.sound_page.specs.Dead.{IsDeadAt}

-- the version is not rolled back, and its deleter, if it is remembered, was not given before this turn
pub record MayDieFrom (w : Window) (turn : ℕ) (h : Header) : Type 0 where
  pub kept : IsFrozen h ⊎ ¬ IsAborted w h.xmin.0
  pub later : IsGiven w h.xmax.0 → turn ≤ turns w.first h.xmax.0

-- each version on the page is so, and the turn is no later than that of the next id
pub record NothingDiesBefore (w : Window) (turn : ℕ) (slots : List Slot) : Type 0 where
  pub reached : turn ≤ length w.entries
  pub each : (n : ℕ) (t : Version) → version_at slots n ≡ Some t → MayDieFrom w turn t.header

-- the turn is that of this id, which is remembered or is given next
abbrev pub IsTurnOf : Window → ℕ → ℕ → Type 0
IsTurnOf w turn x = IsUpToNext w x × (turn ≡ turns w.first x)

-- the turn is that of the next id, or else that of a version's deleter: so it is no earlier than the page tells
pub data IsTurnThere (w : Window) (turn : ℕ) (slots : List Slot) : Type 0 where
  of_next : turn ≡ length w.entries → IsTurnThere w turn slots
  of_deleter : (n : ℕ) (t : Version) → version_at slots n ≡ Some t → IsTurnOf w turn t.header.xmax.0 → IsTurnThere w turn slots

-- the id, if it is remembered, was not given before this turn
abbrev pub IsNoLaterThan : Window → ℕ → ℕ → Type 0
IsNoLaterThan w turn x = IsGiven w x → turn ≤ turns w.first x

-- the version in a slot, if there is one, is not dead, and may be from this turn on
abbrev pub LivesAt : Window → (horizon : Id) → (turn : Count) → List Slot → SlotNo → Type 0
LivesAt w horizon turn slots n = ¬ IsDeadAt w horizon slots n × ((t : Version) → version_at slots n ≡ Some t → MayDieFrom w turn t.header)
