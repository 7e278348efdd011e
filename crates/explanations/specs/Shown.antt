-- What is shown of a key: its entries, and of the chain to which one leads each version, with its verdict.
use Rattle.std.specs.Prelude.{◌≡◌, ◌≤◌, ℕ, pos, List, length, Option, Some, slice_get, MatchOption}
use Rattle.std.specs.Option.{option_map}
use Rattle.xid_circle.specs.Numbers.{Key, SlotNo, Count}
use Rattle.xid_circle.specs.declared.Tid.{Tid}
use Rattle.page_sheet.specs.declared.slot.Slot.{Slot}
use Rattle.page_sheet.specs.Slots.{version_at}
use Rattle.tuple_header.specs.Version.{Version}
use Rattle.commit_status.specs.Window.{Window}
use Rattle.snapshot.specs.Snap.{Snap}
use Rattle.hot_chain.specs.Chain.{has_aborted, IsChain}
use Rattle.index_entries.specs.declared.entry.Entry.{Entry}
use Rattle.index_lookup.specs.Looking.{IsNextOf}
use Rattle.visibility.specs.declared.reader.Reader.{Reader}
use Rattle.reasons.specs.Reasons.{IsVerdictIn}
use Rattle.explanations.specs.declared.versions.ShownVersion.{ShownVersion}

-- the entry by key that leads to a place
abbrev pub entry_to : Key → Tid → Entry
entry_to key place = record { value = pos key; key = key; tid = place }

-- where the key's next entry leads: the first after that which leads to a place, or the first of all
abbrev pub IsNextPlace : List Entry → Key → Option Tid → Option Tid → Type 0
IsNextPlace entries key after answer = IsNextOf entries (pos key) key (option_map (entry_to key) after) (option_map (entry_to key) answer)

-- the slot holds a version, and this is its verdict
pub record IsShown (w : Window) (s : Snap) (own : List ℕ) (slots : List Slot) (shown : ShownVersion) : Type 0 where
  pub version : Version
  pub there : version_at slots shown.slot ≡ Some version
  pub verdict : IsVerdictIn w s own version.header shown.verdict

-- what stands at this place of the chain of a slot, counted from 0, if the chain is so long
pub record IsShownAlong (w : Window) (s : Snap) (own : List ℕ) (slots : List Slot) (number : SlotNo) (n : Count) (answer : Option ShownVersion) : Type 0 where
  pub chain : List ℕ
  pub is_chain : IsChain (has_aborted w) slots number chain
  pub shown : MatchOption answer (length chain ≤ n) (λ v. (slice_get chain n ≡ Some v.slot) × IsShown w s own slots v)

-- for a reader
abbrev pub IsShownOn : Reader → List Slot → SlotNo → Count → Option ShownVersion → Type 0
IsShownOn r slots number n answer = IsShownAlong r.statuses.now r.snapshot.now r.own.now.ids slots number n answer
