-- What a cursor has still to hand out, by the versions that its session sees. Nobody else's step moves one of these, and
-- the session itself writes nothing while the cursor is open, so a position is enough to know the rest by.
use Rattle.std.specs.Prelude.{◌≡◌, ℕ, ◌<◌, ◌≤◌, ℤ, ◌<ℤ◌, ◌≤ℤ◌, ◌⊎◌, List, slice_get, Option, Some, None}
use Rattle.xid_circle.specs.declared.Tid.{Tid}
use Rattle.tuple_header.specs.declared.version.Row.{Row}
use Rattle.tuple_header.specs.Version.{Version}
use Rattle.history.specs.World.{Cursor, Order, by_index, by_heap, by_keys}
use Rattle.tuple_header.specs.IndexValue.{value_in}
use Rattle.history.specs.Cursors.{ComesBefore}
use Rattle.refinement.specs.Heap.{RowPosition, Position, in_index, in_heap, in_keys}
use Rattle.refinement.specs.Visible.{At}

-- where the row stands in the order of the index
abbrev pub index_position_of : ℕ → Row → RowPosition
index_position_of index row = record { value = value_in index row; key = row.key }

-- after this place of the index's order, or anywhere
abbrev pub IsPastPosition : ℕ → Option RowPosition → Row → Type 0
IsPastPosition index None row = Unit {0}
IsPastPosition index (Some last) row = (last.value <ℤ value_in index row) ⊎ (last.value ≡ value_in index row) × (last.key < row.key)

-- within the bounds too
pub record IsAhead (index : ℕ) (low high : ℤ) (last : Option RowPosition) (row : Row) : Type 0 where
  pub from : low ≤ℤ value_in index row
  pub to : value_in index row ≤ℤ high
  pub after : IsPastPosition index last row

-- at the one place or behind it, by page and then by slot
abbrev pub IsFrom : Tid → Tid → Type 0
IsFrom from p = (from.page < p.page) ⊎ (from.page ≡ p.page) × (from.slot ≤ p.slot)

-- no place is before this one
abbrev pub heap_start : Tid
heap_start = record { page = 0; slot = 0 }

-- still to come at the position: in an index, and over keys, by the row, in the heap by the place
abbrev pub IsToCome : Position → Tid → Row → Type 0
IsToCome (in_index index low high last) p row = IsAhead index low high last row
IsToCome (in_heap from) p row = IsFrom from p
IsToCome (in_keys low high last) p row = IsAhead 0 low high last row

abbrev pub order_of : Position → Order
order_of (in_index index low high last) = by_index index
order_of (in_heap page) = by_heap
order_of (in_keys low high last) = by_keys

-- a version that is seen and still to come has this row
pub record Comes (store : Tid → Option Version) (seen : Version → Type 0) (position : Position) (row : Row) : Type 0 where
  pub place : Tid
  pub version : Version
  pub here : At store place version
  pub shown : seen version
  pub same_row : version.row ≡ row
  pub to_come : IsToCome position place row

-- a cursor at the position agrees with the model's: what it has not handed out are the rows still to come
pub record Remains (store : Tid → Option Version) (seen : Version → Type 0) (position : Position) (c : Cursor) : Type 0 where
  pub order : c.order ≡ order_of position
  pub sound : (row : Row) → Comes store seen position row → c.rest row.key ≡ Some row
  pub there : (k : ℕ) (row : Row) → c.rest k ≡ Some row → Comes store seen position row × (row.key ≡ k)

-- neither has a cursor, or both have, and these agree
pub record CursorAgrees (store : Tid → Option Version) (seen : Version → Type 0) (position : Option Position) (c : Option Cursor) : Type 0 where
  pub closed : position ≡ None → c ≡ None
  pub opened : (p : Position) → position ≡ Some p → (model : Cursor) × (c ≡ Some model) × Remains store seen p model

-- of a walk in an index from the one place of its order to the other: these are the rows, in order, that it meets
pub record WalksOver (store : Tid → Option Version) (seen : Version → Type 0) (index : ℕ) (low high : ℤ) (from to : Option RowPosition) (rows : List Row) : Type 0 where
  pub theirs : (i : ℕ) (row : Row) → slice_get rows i ≡ Some row → Comes store seen (in_index index low high from) row × (¬ IsPastPosition index to row)
  pub in_order : (i j : ℕ) (a b : Row) → slice_get rows i ≡ Some a → slice_get rows j ≡ Some b → i < j → ComesBefore index a b
  pub met : (row : Row) → Comes store seen (in_index index low high from) row → IsPastPosition index to row ⊎ ((i : ℕ) × (r : Row) × (slice_get rows i ≡ Some r) × (r.key ≡ row.key))
  -- it goes onward
  pub onward : (row : Row) → IsPastPosition index to row → IsPastPosition index from row

-- a version that is seen has this row, and stands at this place
pub record Stands (store : Tid → Option Version) (seen : Version → Type 0) (p : Tid) (row : Row) : Type 0 where
  pub version : Version
  pub here : At store p version
  pub shown : seen version
  pub same_row : version.row ≡ row

-- of a walk over the heap from the one place up to the other: these are the rows that it meets, by their places
pub record Gathers (store : Tid → Option Version) (seen : Version → Type 0) (from to : Tid) (rows : List Row) : Type 0 where
  pub theirs : (i : ℕ) (row : Row) → slice_get rows i ≡ Some row → (p : Tid) × IsFrom from p × (¬ IsFrom to p) × Stands store seen p row
  pub in_order : (i j : ℕ) (a b : Row) → slice_get rows i ≡ Some a → slice_get rows j ≡ Some b → i < j → (p q : Tid) × (¬ IsFrom q p) × Stands store seen p a × Stands store seen q b
  pub met : (p : Tid) (row : Row) → IsFrom from p → Stands store seen p row → IsFrom to p ⊎ ((i : ℕ) × (slice_get rows i ≡ Some row))
  -- it goes onward
  pub onward : (p : Tid) → IsFrom to p → IsFrom from p
