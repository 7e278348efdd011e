-- What a walk finds that goes on from where a cursor is: along an index, or over a page.
use Rattle.std.specs.Prelude.{◌≡◌, ◌⊎◌, ℕ, ◌<◌, ◌<ℤ◌, ◌≤ℤ◌, List, Option, Some, None, Contains, MatchOption}
use Rattle.tuple_header.specs.Version.{Version}
use Rattle.tuple_header.specs.declared.version.Header.{Header}
use Rattle.tuple_header.specs.declared.version.Row.{Row}
use Rattle.page_sheet.specs.declared.slot.Slot.{Slot}
use Rattle.page_sheet.specs.Slots.{version_at}
use Rattle.commit_status.specs.Window.{Window}
use Rattle.index_entries.specs.declared.entry.Entry.{Entry}
use Rattle.index_lookup.specs.Looking.{FirstFound}
use Rattle.index_lookup.specs.declared.index_scan.IndexPosition.{IndexPosition}
use Rattle.index_lookup.specs.declared.index_scan.IndexRange.{IndexRange}

-- Along an index, in the order of value and key.

-- the entry comes before this place of the order
abbrev pub IsBeforePosition : Entry → IndexPosition → Type 0
IsBeforePosition e position = (e.value <ℤ position.value) ⊎ ((e.value ≡ position.value) × (e.key < position.key))

-- it comes after the place, if there is one
abbrev pub ComesAfter : Entry → Option IndexPosition → Type 0
ComesAfter e None = Unit {0}
ComesAfter e (Some position) = (position.value <ℤ e.value) ⊎ ((position.value ≡ e.value) × (position.key < e.key))

-- it is not below the span's low value, and comes after its last place
pub record StartsIn (span : IndexRange) (e : Entry) : Type 0 where
  pub from : span.low ≤ℤ e.value
  pub after : ComesAfter e span.last

-- no entry of its value and its key comes after this one
abbrev pub last_at : IndexPosition → Entry
last_at position = record { value = position.value; key = position.key; tid = record { page = 4294967295; slot = 65535 } }

pub record LiesIn (span : IndexRange) (e : Entry) : Type 0 where
  pub from : span.low ≤ℤ e.value
  pub to : e.value ≤ℤ span.high
  pub after : ComesAfter e span.last

-- an entry of the span stands at this place, by whose value and key the row is found; before it none is found
pub record IsNextRow (w : Window) (seen : Header → Type 0) (pages : List (List Slot)) (entries : List Entry) (span : IndexRange) (position : IndexPosition) (row : Row) : Type 0 where
  pub entry : Entry
  pub there : Contains entries entry
  pub lies : LiesIn span entry
  pub value : position.value ≡ entry.value
  pub key : position.key ≡ entry.key
  pub found : FirstFound w seen pages entries position.value position.key (Some row)
  pub none_before : (e : Entry) → Contains entries e → LiesIn span e → IsBeforePosition e position → FirstFound w seen pages entries e.value e.key None

-- by the value and key of no entry of the span a row is found
abbrev pub NoneLeft : Window → (Header → Type 0) → List (List Slot) → List Entry → IndexRange → Type 0
NoneLeft w seen pages entries span = (e : Entry) → Contains entries e → LiesIn span e → FirstFound w seen pages entries e.value e.key None

abbrev pub NextRow : Window → (Header → Type 0) → List (List Slot) → List Entry → IndexRange → Option (IndexPosition × Row) → Type 0
NextRow w seen pages entries span answer = MatchOption answer (NoneLeft w seen pages entries span) (λ found. IsNextRow w seen pages entries span found.0 found.1)

-- On a page.

-- the version in the slot is seen, and has this row
pub record IsSeenRow (seen : Header → Type 0) (slots : List Slot) (slot : ℕ) (row : Row) : Type 0 where
  pub version : Version
  pub there : version_at slots slot ≡ Some version
  pub shown : seen version.header
  pub is_row : row ≡ version.row

abbrev pub NoneSeenFrom : (Header → Type 0) → List Slot → ℕ → Type 0
NoneSeenFrom seen slots slot = (t : Version) → version_at slots slot ≡ Some t → ¬ seen t.header

abbrev pub SeenRow : (Header → Type 0) → List Slot → ℕ → Option Row → Type 0
SeenRow seen slots slot answer = MatchOption answer (NoneSeenFrom seen slots slot) (IsSeenRow seen slots slot)
