-- The chain of a slot, on any page: the versions of one row, from the oldest on the page to the newest. (README.HOT: an
-- index entry leads to a root; a redirect is followed first; a version that a heap-only one replaced leads to it.)
use Rattle.std.specs.Prelude.{◌≡◌, ℕ, ◌+◌, ◌-◌, ◌<◌, ◌==◌, not, ◌&&◌, Bool, true, false, nat_eq, List, length, Option, Some, None, is_some, slice_get, slice_index, if◌then◌else◌, Contains, MatchOption}
use Rattle.std.specs.Option.{option_and_then}
use Rattle.std.specs.List.{IsDistinct, list_any}
use Rattle.page_sheet.specs.declared.slot.Slot.{Slot}
use Rattle.page_sheet.specs.declared.slot.Slot.TheVariants.{Normal, Redirect}
use Rattle.page_sheet.specs.Slots.{slot_at, version_at, header_at}
use Rattle.tuple_header.specs.Version.{Version}
use Rattle.tuple_header.specs.Marks.{is_hot_updated, is_heap_only}
use Rattle.tuple_header.specs.declared.version.Header.{Header}
use Rattle.commit_status.specs.declared.status.Status.{Status}
use Rattle.commit_status.specs.declared.status.Status.TheVariants.{Aborted}
use Rattle.commit_status.specs.Window.{Window, status_of}

abbrev pub is_aborted : Status → Bool
is_aborted Aborted = true
is_aborted status = false

abbrev pub has_aborted : Window → ℕ → Bool
has_aborted w x = is_aborted (status_of w x)

-- a redirect is followed first
abbrev pub start_in : List Slot → ℕ → Slot → Option ℕ
start_in slots n (Normal t) = Some n
start_in slots n (Redirect target) = if is_some (version_at slots target) then Some target else None
start_in slots n slot = None

abbrev pub first_of : List Slot → ℕ → Option ℕ
first_of slots n = option_and_then (start_in slots n) (slot_at slots n)

-- a version that a later one of its row replaced, by an update that may count
abbrev pub is_replaced : (ℕ → Bool) → Header → Bool
is_replaced aborted h = is_hot_updated h && not (h.xmax.0 == 0) && not (aborted h.xmax.0)

-- a heap-only version that this id made
abbrev pub is_made_by : ℕ → Option Header → Bool
is_made_by x None = false
is_made_by x (Some h) = is_heap_only h && h.xmin.0 == x

abbrev pub successor : (ℕ → Bool) → List Slot → Header → Option ℕ
successor aborted slots h =
    if is_replaced aborted h && is_made_by h.xmax.0 (header_at slots h.ctid.slot) then Some h.ctid.slot else None

abbrev pub next_in_chain : (ℕ → Bool) → List Slot → ℕ → Option ℕ
next_in_chain aborted slots n = option_and_then (successor aborted slots) (header_at slots n)

-- nothing comes next, or only what was visited
abbrev pub IsEnd : List ℕ → Option ℕ → Type 0
IsEnd visited None = Unit {0}
IsEnd visited (Some n) = list_any (nat_eq n) visited ≡ true

-- the slots, in order: from the first, each the next of the one before, no two the same, as far as it goes
pub record IsChain (aborted : ℕ → Bool) (slots : List Slot) (n : ℕ) (chain : List ℕ) : Type 0 where
  pub start : slice_get chain 0 ≡ first_of slots n
  pub linked : (i : ℕ) → i + 1 < length chain → next_in_chain aborted slots (slice_index chain i) ≡ Some (slice_index chain (i + 1))
  pub distinct : IsDistinct nat_eq chain
  pub end : 0 < length chain → IsEnd chain (next_in_chain aborted slots (slice_index chain (length chain - 1)))

-- the version at a place of a chain is seen, and none before it is
pub record IsFirstSeen (seen : Header → Type 0) (slots : List Slot) (chain : List ℕ) (i : ℕ) (t : Version) : Type 0 where
  pub within : i < length chain
  pub there : version_at slots (slice_index chain i) ≡ Some t
  pub is_seen : seen t.header
  pub none_before : (j : ℕ) (u : Version) → j < i → version_at slots (slice_index chain j) ≡ Some u → ¬ seen u.header

abbrev pub NoneSeen : (Header → Type 0) → List Slot → List ℕ → Type 0
NoneSeen seen slots chain = (j : ℕ) (u : Version) → j < length chain → version_at slots (slice_index chain j) ≡ Some u → ¬ seen u.header

-- the first version of these slots that is seen is in slot n
pub record IsSeenIn (seen : Header → Type 0) (slots : List Slot) (chain : List ℕ) (n : ℕ) : Type 0 where
  pub index : ℕ
  pub slot : n ≡ slice_index chain index
  pub version : Version
  pub first : IsFirstSeen seen slots chain index version

-- the slot of the first version of these that is seen, if there is one
abbrev pub FirstSeenIn : (Header → Type 0) → List Slot → List ℕ → Option ℕ → Type 0
FirstSeenIn seen slots chain answer = MatchOption answer (NoneSeen seen slots chain) (IsSeenIn seen slots chain)

-- the slot of the first version of the slot's chain that is seen, if there is one
abbrev pub SeenAlong : (ℕ → Bool) → (Header → Type 0) → List Slot → ℕ → Option ℕ → Type 0
SeenAlong aborted seen slots n answer = (chain : List ℕ) × IsChain aborted slots n chain × FirstSeenIn seen slots chain answer

-- the first version of these slots that is seen, if there is one
abbrev pub FirstSeen : (Header → Type 0) → List Slot → List ℕ → Option Version → Type 0
FirstSeen seen slots chain answer = MatchOption answer (NoneSeen seen slots chain) (λ t. (i : ℕ) × IsFirstSeen seen slots chain i t)

-- the first version of the slot's chain that is seen, if there is one
abbrev pub Fetched : (ℕ → Bool) → (Header → Type 0) → List Slot → ℕ → Option Version → Type 0
Fetched aborted seen slots n answer = (chain : List ℕ) × IsChain aborted slots n chain × FirstSeen seen slots chain answer

-- where an index entry may lead: a version that isn't heap-only, or a redirect
abbrev pub is_root_slot : Slot → Bool
is_root_slot (Normal t) = not (is_heap_only t.header)
is_root_slot (Redirect target) = true
is_root_slot slot = false

abbrev pub is_root_in : Option Slot → Bool
is_root_in None = false
is_root_in (Some slot) = is_root_slot slot

abbrev pub is_root : List Slot → ℕ → Bool
is_root slots n = is_root_in (slot_at slots n)

-- a root or redirect whose chain holds the slot
pub record LeadsTo (aborted : ℕ → Bool) (slots : List Slot) (root slot : ℕ) : Type 0 where
  pub starts : is_root slots root ≡ true
  pub chain : List ℕ
  pub is_chain : IsChain aborted slots root chain
  pub holds : Contains chain slot

-- the lowest such, if there is one
abbrev pub IsLowestRoot : (ℕ → Bool) → List Slot → ℕ → Option ℕ → Type 0
IsLowestRoot aborted slots slot answer = MatchOption answer
    ((root : ℕ) → ¬ LeadsTo aborted slots root slot)
    (λ root. LeadsTo aborted slots root slot × ((lower : ℕ) → lower < root → ¬ LeadsTo aborted slots lower slot))
