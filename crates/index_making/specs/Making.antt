-- The entries of an index made in use: one for each chain that holds a current row. (The manual's CREATE INDEX; README.HOT on broken
-- chains.) All is said of any pages, sound or not: of a chain that had two current versions the first would count.
use Rattle.std.specs.Prelude.{◌≡◌, ℕ, true, List, [], Some, Contains}
use Rattle.xid_circle.specs.declared.Tid.{Tid}
use Rattle.tuple_header.specs.Version.{Version}
use Rattle.tuple_header.specs.declared.version.Header.{Header}
use Rattle.page_sheet.specs.declared.slot.Slot.{Slot}
use Rattle.page_sheet.specs.Slots.{version_at}
use Rattle.commit_status.specs.Window.{Window, next_id}
use Rattle.snapshot.specs.Snap.{empty_at}
use Rattle.visibility.specs.Visible.{IsVisible}
use Rattle.hot_chain.specs.Chain.{has_aborted, is_root_in, LeadsTo}
use Rattle.index_entries.specs.declared.entry.Entry.{Entry}
use Rattle.index_lookup.specs.Pages.{slots_on, slot_in}
use Rattle.index_lookup.specs.Looking.{FetchedAt}
use Rattle.table_indexes.specs.Indexes.{index_entry_of}

-- a version is current: who counts all that has committed, and nothing else, sees it
abbrev pub IsCurrent : Window → Header → Type 0
IsCurrent w h = IsVisible w (empty_at (next_id w)) [] h

-- at the place stands a root or a redirect whose chain holds this version, and it is current
pub record LeadsToCurrent (w : Window) (pages : List (List Slot)) (place : Tid) (t : Version) : Type 0 where
  pub slot : ℕ
  pub leads : LeadsTo (has_aborted w) (slots_on pages place.page) place.slot slot
  pub there : version_at (slots_on pages place.page) slot ≡ Some t
  pub current : IsCurrent w t.header

-- the entry is that of a root or a redirect, by the first current version of its chain
pub record IsOfCurrent (w : Window) (pages : List (List Slot)) (number : ℕ) (e : Entry) : Type 0 where
  pub root : is_root_in (slot_in pages e.tid) ≡ true
  pub version : Version
  pub first : FetchedAt w (IsCurrent w) pages e.tid (Some version)
  pub is : e ≡ index_entry_of number version.row e.tid

-- the entries of an index of this number are those of the current rows: each chain that holds one has an entry, and there is no other
pub record ListsCurrent (w : Window) (pages : List (List Slot)) (number : ℕ) (entries : List Entry) : Type 0 where
  pub each : (place : Tid) (t : Version) → LeadsToCurrent w pages place t → (e : Entry) × Contains entries e × (e.tid ≡ place)
  pub only : (e : Entry) → Contains entries e → IsOfCurrent w pages number e

-- the table has a current row
abbrev pub SomeCurrent : Window → List (List Slot) → Type 0
SomeCurrent w pages = (place : Tid) × (version : Version) × LeadsToCurrent w pages place version
