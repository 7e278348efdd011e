-- The indexes of a table by their numbers: index 0 by key, which is always in use, and index c + 1 by column c. (README.HOT:
-- there is one entry for a chain, in each index; a version that has another value in one of them is a root of its own.)
use Rattle.std.specs.Prelude.{◌≡◌, ◌⊎◌, ℕ, zero, suc, ◌+◌, ◌<◌, ◌≤◌, ◌∷◌, length, Bool, true, false, if◌then◌else◌, List, [], Option, Some, None, IsSome, IfSome, ℤ, option_map, unwrap_or, slice_index_or}
use Rattle.std.specs.List.{All}
use Rattle.xid_circle.specs.Numbers.{IndexNo, Count, Key}
use Rattle.xid_circle.specs.declared.Tid.{Tid}
use Rattle.xid_circle.specs.declared.Xid.{Xid}
use Rattle.tuple_header.specs.declared.version.Row.{Row}
use Rattle.snapshot.specs.Snap.{is_before}
use Rattle.index_entries.specs.declared.entry.Entry.{Entry}
use Rattle.index_entries.specs.declared.node.TheConstants.{MOST_PARTS}
use Rattle.index_entries.specs.Sets.{AddsEntry}
use Rattle.entry_columns.specs.Fits.{FitsLabel}
use Rattle.root_index.specs.View.{IndexView, room_in}
use Rattle.tuple_header.specs.IndexValue.{value_in}
use Rattle.root_index.specs.Rows.{entry_for}

pub record IndexesView : Type 0 where
  -- by their numbers: none where one is not in use
  pub indexes : List (Option IndexView)
  -- by the column, from which id on its index is exact: no id where it always was
  pub since : List (Option Xid)

-- the index of a number, if it is in use
abbrev pub index_at : IndexesView → ℕ → Option IndexView
index_at indexes n = slice_index_or indexes.indexes n None

-- the id from which on an index is exact, if it was not always: who reads as of an id before may miss rows there. (PostgreSQL marks
-- such an index indcheckxmin.) The index by key has none.
abbrev pub since_at : IndexesView → ℕ → Option ℕ
since_at indexes n = option_map (λ (x : Xid). x.0) (slice_index_or (None ∷ indexes.since) n None)

-- from which id on an index is exact when the ids before c are forgotten: from c, if it was from an earlier one
abbrev pub since_after : ℕ → Option ℕ → Option ℕ
since_after c None = None
since_after c (Some id) = Some (if is_before id c then c else id)

abbrev pub entries_of : Option IndexView → Option (List Entry)
entries_of o = option_map (λ (index : IndexView). index.entries) o

-- its entries, if it is in use
abbrev pub entries_at : IndexesView → ℕ → Option (List Entry)
entries_at indexes n = entries_of (index_at indexes n)

-- its entries: none where it is not in use
abbrev pub entries_in : IndexesView → ℕ → List Entry
entries_in indexes n = unwrap_or (entries_at indexes n) []

abbrev pub IsInUse : IndexesView → ℕ → Type 0
IsInUse indexes n = IsSome (entries_at indexes n)

-- in a new table no index has an entry, and one by a column is in use where this says so of the column
abbrev pub new_entries : List Bool → ℕ → Option (List Entry)
new_entries indexed zero = Some []
new_entries indexed (suc c) = if slice_index_or indexed c false then Some [] else None

-- index 0 is in use, and there are no more than five
pub record HasIndexes (indexes : IndexesView) : Type 0 where
  pub by_key : IsInUse indexes 0
  pub few : (n : ℕ) → IsInUse indexes n → n < 5

-- the next index in use
pub record IsNextIndex (indexes : IndexesView) (i j : ℕ) : Type 0 where
  pub onward : i < j
  pub in_use : IsInUse indexes j
  pub none_between : (n : ℕ) → i < n → n < j → ¬ IsInUse indexes n

-- how many entries so many indexes have, counted from n, and all five that there may be
abbrev pub entries_from : IndexesView → IndexNo → (many : Count) → Count
entries_from indexes n zero = 0
entries_from indexes n (suc count) = length (entries_in indexes n) + entries_from indexes (suc n) count

abbrev pub all_entries : IndexesView → ℕ
all_entries indexes = entries_from indexes 0 5

-- Kinds.

-- the index, if it is in use, is one by a column
abbrev pub IsByColumn : Option IndexView → Type 0
IsByColumn o = IfSome o (λ index. index.is_by_key ≡ false)

-- there are four columns, and each index is of its kind
pub record AreOfTheirKinds (by_key : IndexView) (by_column : List (Option IndexView)) : Type 0 where
  pub size : length by_column ≡ 4
  pub key : by_key.is_by_key ≡ true
  pub columns : All IsByColumn by_column

-- What is said of rows.

-- two rows have the same value in each index in use
abbrev pub SameValues : IndexesView → Row → Row → Type 0
SameValues indexes old new = (n : ℕ) → IsInUse indexes n → value_in n new ≡ value_in n old

-- a row without a body: what an index takes of a row is its key and its columns
abbrev pub without_body : ℕ → List ℤ → Row
without_body key cols = record { key = key; cols = cols; body = record { items = [] } }

-- the entry of a row's version at a place, in the index of this number
abbrev pub index_entry_of : ℕ → Row → Tid → Entry
index_entry_of n row place = entry_for (value_in n) row place.page place.slot

-- Changes.

-- the same indexes are in use, have the same entries, and are exact from the same ids on
pub record SameEntries (indexes indexes' : IndexesView) : Type 0 where
  pub entries : (n : ℕ) → entries_at indexes' n ≡ entries_at indexes n
  pub since : (n : ℕ) → since_at indexes' n ≡ since_at indexes n

-- an index that is in use has this entry besides, and one that isn't is not in use afterwards
abbrev pub AddsAny : Option (List Entry) → Option (List Entry) → Entry → Type 0
AddsAny None after entry = after ≡ None
AddsAny (Some entries) None entry = ⊥
AddsAny (Some entries) (Some entries') entry = AddsEntry entries entries' entry

-- each index in use has an entry besides, for a row's version at a place, and is exact from the same id on
pub record Enters (indexes indexes' : IndexesView) (row : Row) (place : Tid) : Type 0 where
  pub adds : (n : ℕ) → AddsAny (entries_at indexes n) (entries_at indexes' n) (index_entry_of n row place)
  pub since : (n : ℕ) → since_at indexes' n ≡ since_at indexes n

-- Memory.

-- an entry of this value and this key takes no memory: it can be in the index, and nodes are set aside for one, or none is full
abbrev pub HasEntry : Option IndexView → ℤ → Key → Type 0
HasEntry None value key = Unit {0}
HasEntry (Some index) value key = (0 < room_in index) × FitsLabel index.is_by_key index.is_narrow value key

-- one for the row, in each index in use
abbrev pub HasEntries : IndexesView → Row → Type 0
HasEntries indexes row = (n : ℕ) → HasEntry (index_at indexes n) (value_in n row) row.key

-- It may take memory. None is set aside, and there is no entry, or there are 128 or more. Or there are so many, and all have to move: the
-- index is narrow, and the value or the key is not.
abbrev pub LacksEntry : Option IndexView → ℤ → Key → Type 0
LacksEntry None value key = ⊥
LacksEntry (Some index) value key =
    (room_in index ≡ 0) ⊎ ((MOST_PARTS ≤ length index.entries) × ¬ FitsLabel index.is_by_key index.is_narrow value key)

-- an entry for the row takes memory in one of the indexes in use
abbrev pub NeedsEntry : IndexesView → Row → Type 0
NeedsEntry indexes row = (n : ℕ) × LacksEntry (index_at indexes n) (value_in n row) row.key
