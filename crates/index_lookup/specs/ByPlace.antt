-- What is found of a key at a place that may be wrong.
use Rattle.std.specs.Prelude.{◌≡◌, ◌⊎◌, ℕ, ℤ, List, Option, Some, None, MatchOption}
use Rattle.xid_circle.specs.declared.Tid.{Tid}
use Rattle.tuple_header.specs.Version.{Version}
use Rattle.tuple_header.specs.declared.version.Header.{Header}
use Rattle.tuple_header.specs.declared.version.Row.{Row}
use Rattle.page_sheet.specs.declared.slot.Slot.{Slot}
use Rattle.commit_status.specs.Window.{Window}
use Rattle.visibility.specs.Seeing.{deleter}
use Rattle.index_entries.specs.declared.entry.Entry.{Entry}
use Rattle.index_lookup.specs.Pages.{version_in}
use Rattle.index_lookup.specs.Looking.{NoneFound, IsFirstFound}

-- a version of the key that is seen, at any place, has this row
pub record IsSeenRowOf (seen : Header → Type 0) (pages : List (List Slot)) (key : ℕ) (row : Row) : Type 0 where
  pub place : Tid
  pub version : Version
  pub there : version_in pages place ≡ Some version
  pub of_key : version.row.key ≡ key
  pub is_seen : seen version.header
  pub is_row : row ≡ version.row

-- the version is seen, and nobody has deleted it
abbrev pub IsSeenUndeleted : (seen : Header → Type 0) → Header → Type 0
IsSeenUndeleted seen h = seen h × (deleter h ≡ None)

-- a version of the key whose header meets P is at this place
pub record IsVersionOf (P : Header → Type 0) (pages : List (List Slot)) (key : ℕ) (place : Tid) : Type 0 where
  pub version : Version
  pub there : version_in pages place ≡ Some version
  pub of_key : version.row.key ≡ key
  pub meets : P version.header

-- the row of a version that is seen; or what a search along the entries finds, which alone can say that there is none
abbrev pub FoundOrSeen : Window → (Header → Type 0) → List (List Slot) → List Entry → ℤ → ℕ → Option Row → Type 0
FoundOrSeen w seen pages entries value key answer = MatchOption answer
    (NoneFound w seen pages entries value key)
    (λ row. IsSeenRowOf seen pages key row ⊎ IsFirstFound w seen pages entries value key row)
