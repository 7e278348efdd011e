-- How an index is made: slot by slot, in ascending order of pages, and of the slots of each.
use Rattle.std.specs.Prelude.{◌≡◌, ◌<◌, ℕ, true, List, [], Some, Contains}
use Rattle.xid_circle.specs.declared.Tid.{Tid}
use Rattle.tuple_header.specs.Version.{Version}
use Rattle.tuple_header.specs.declared.version.Row.{Row}
use Rattle.page_sheet.specs.declared.slot.Slot.{Slot}
use Rattle.page_sheet.specs.Slots.{version_at}
use Rattle.commit_status.specs.Window.{Window, next_id}
use Rattle.snapshot.specs.Snap.{empty_at}
use Rattle.visibility.specs.declared.reader.Reader.{Reader}
use Rattle.hot_chain.specs.Chain.{has_aborted, is_root, Fetched, LeadsTo}
use Rattle.index_entries.specs.declared.entry.Entry.{Entry}
use Rattle.table_indexes.specs.Indexes.{index_entry_of}
use Rattle.index_making.specs.Filling.{Joins}
use Rattle.index_making.specs.Making.{IsCurrent, LeadsToCurrent, IsOfCurrent}

-- the reader counts all that has committed, and nothing else
pub record ReadsCurrent (w : Window) (r : Reader) : Type 0 where
  pub statuses : r.statuses.now ≡ w
  pub snapshot : r.snapshot.now ≡ empty_at (next_id w)
  pub own : r.own.now.ids ≡ []

-- One page.

-- the slot is a root or a redirect, and this is the first current version of its chain
pub record IsFirstCurrent (w : Window) (slots : List Slot) (root : ℕ) (t : Version) : Type 0 where
  pub starts : is_root slots root ≡ true
  pub first : Fetched (has_aborted w) (IsCurrent w) slots root (Some t)

-- there is one
pub record SomeFirstCurrent (w : Window) (slots : List Slot) (root : ℕ) : Type 0 where
  pub version : Version
  pub is_first : IsFirstCurrent w slots root version

-- this is its row
pub record IsRowOfCurrent (w : Window) (slots : List Slot) (root : ℕ) (row : Row) : Type 0 where
  pub version : Version
  pub is_first : IsFirstCurrent w slots root version
  pub is_row : row ≡ version.row

-- the slot is no root and no redirect, or no version of its chain is current
abbrev pub LacksCurrent : Window → List Slot → ℕ → Type 0
LacksCurrent w slots root = (n : ℕ) (t : Version) → LeadsTo (has_aborted w) slots root n → version_at slots n ≡ Some t → ¬ IsCurrent w t.header

-- a place of the page is looked at: its entry comes, where one is to come
pub data AddsCurrent (w : Window) (slots : List Slot) (number : ℕ) (place : Tid) (entries entries' : List Entry) : Type 0 where
  enters : (t : Version) → IsFirstCurrent w slots place.slot t → Joins entries entries' (index_entry_of number t.row place)
      → AddsCurrent w slots number place entries entries'
  leaves : LacksCurrent w slots place.slot → entries' ≡ entries → AddsCurrent w slots number place entries entries'

-- All pages.

-- the place is looked at before this slot of page p
pub data IsPlaceBefore (p slot : ℕ) (place : Tid) : Type 0 where
  earlier_page : place.page < p → IsPlaceBefore p slot place
  earlier_slot : place.page ≡ p → place.slot < slot → IsPlaceBefore p slot place

-- the entries are those of the current rows whose places come before
pub record ListsUpTo (w : Window) (pages : List (List Slot)) (number p slot : ℕ) (entries : List Entry) : Type 0 where
  pub each : (place : Tid) (t : Version) → IsPlaceBefore p slot place → LeadsToCurrent w pages place t
      → (e : Entry) × Contains entries e × (e.tid ≡ place)
  pub only : (e : Entry) → Contains entries e → IsOfCurrent w pages number e
