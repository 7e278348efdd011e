-- Rows as lists in the order of an index.
use Rattle.std.specs.Prelude.{◌≡◌, ℕ, ◌==◌, ◌&&◌, ◌||◌, nat_lt, int_lt, int_le, if◌then◌else◌, Bool, true, List, [], ◌∷◌, Option, None, find, not}
use Rattle.std.specs.List.{list_any, filter}
use Rattle.std.specs.Ordering.{int_eq}
use Rattle.xid_circle.specs.Numbers.{IndexNo, Key}
use Rattle.tuple_header.specs.declared.version.Row.{Row}
use Rattle.plain_cursor.specs.declared.order.PlainOrder.{PlainOrder}
use Rattle.plain_cursor.specs.declared.order.PlainOrder.TheVariants.{Index, Heap, Keys}
use Rattle.plain_cursor.specs.declared.order.Bounds.{Bounds}
use Rattle.plain_cursor.specs.declared.order.Bounds.TheVariants.{All, Within}
use Rattle.tuple_header.specs.IndexValue.{value_in}
use Rattle.history.specs.Cursors.{kept_where}

-- what a cursor has not handed out yet, in the order of its index
pub record KeptCursor : Type 0 where
  pub order : PlainOrder
  pub rest : List Row

-- the index in whose order the rows stand; those of a heap cursor may stand in any
abbrev pub index_of : PlainOrder → ℕ
index_of (Index index) = index
index_of Heap = 0
index_of Keys = 0

-- of each key its row in the list
abbrev pub row_of_key : List Row → ℕ → Option Row
row_of_key rows key = find (λ row. row.key == key) rows

-- the row stands before the other: by the value, and by the key where the values are equal
abbrev pub comes_before : ℕ → Row → Row → Bool
comes_before index a b =
    int_lt (value_in index a) (value_in index b) || (int_eq (value_in index a) (value_in index b) && nat_lt a.key b.key)

-- the row stands before all of these
abbrev pub ComesBeforeAll : ℕ → Row → List Row → Type 0
ComesBeforeAll index row [] = Unit {0}
ComesBeforeAll index row (other ∷ rows) = (comes_before index row other ≡ true) × ComesBeforeAll index row rows

-- each row comes before those behind it, and none of them has its key
abbrev pub IsInOrder : ℕ → List Row → Type 0
IsInOrder index [] = Unit {0}
IsInOrder index (row ∷ rows) = ComesBeforeAll index row rows × (row_of_key rows row.key ≡ None) × IsInOrder index rows

-- the row put before the first that it comes before
abbrev pub placed : ℕ → Row → List Row → List Row
placed index row [] = row ∷ []
placed index row (other ∷ rows) = if comes_before index row other then row ∷ other ∷ rows else other ∷ placed index row rows

-- the bounds let the row pass
abbrev pub is_wanted : Bounds → ℕ → Row → Bool
is_wanted All index row = true
is_wanted (Within low high) index row = int_le low (value_in index row) && int_le (value_in index row) high

-- of each key the row that passes
abbrev pub wanted : Bounds → IndexNo → (Key → Option Row) → Key → Option Row
wanted bounds index rows key = kept_where (is_wanted bounds index) (rows key)

-- the rows whose key is none of these
abbrev pub rows_without : List ℕ → List Row → List Row
rows_without keys rows = filter (λ row. not (list_any (λ taken. taken == row.key) keys)) rows
