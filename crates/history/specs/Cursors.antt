-- What a cursor hands out.
use Rattle.std.specs.Prelude.{◌≡◌, ℕ, ◌<◌, ◌≤◌, ◌==◌, ◌&&◌, max, if◌then◌else◌, Bool, List, map, length, Option, Some, None, ℤ, ◌<ℤ◌, int_le, slice_get, ◌⊎◌}
use Rattle.std.specs.List.{list_any}
use Rattle.tuple_header.specs.declared.version.Row.{Row}
use Rattle.tuple_header.specs.IndexValue.{value_in}
use Rattle.history.specs.World.{Order, by_index, by_heap, by_keys}

-- the one row comes before the other in the index: by the value, and by the key where the values are equal
abbrev pub ComesBefore : ℕ → Row → Row → Type 0
ComesBefore index a b = (value_in index a <ℤ value_in index b) ⊎ (value_in index a ≡ value_in index b) × (a.key < b.key)

abbrev pub kept_where : {A : Type 0} → (A → Bool) → Option A → Option A
kept_where test None = None
kept_where test (Some x) = if test x then Some x else None

-- the rows whose value lies within the bounds, both included
abbrev pub rows_within : ℕ → ℤ → ℤ → (ℕ → Option Row) → ℕ → Option Row
rows_within index low high rows key = kept_where (λ row. int_le low (value_in index row) && int_le (value_in index row) high) (rows key)

abbrev pub keys_of : List Row → List ℕ
keys_of rows = map (λ row. row.key) rows

-- the rest without the rows of these keys
abbrev pub without : List ℕ → (ℕ → Option Row) → ℕ → Option Row
without keys rest key = if list_any (λ taken. taken == key) keys then None else rest key

abbrev pub IsOver : (ℕ → Option Row) → Type 0
IsOver rest = (key : ℕ) → rest key ≡ None

-- each is the row of its key, and none of them comes twice
pub record AreOf (row : ℕ → Option Row) (rows : List Row) : Type 0 where
  pub theirs : (i : ℕ) (r : Row) → slice_get rows i ≡ Some r → row r.key ≡ Some r
  pub once : (i j : ℕ) (a b : Row) → slice_get rows i ≡ Some a → slice_get rows j ≡ Some b → a.key ≡ b.key → i ≡ j

-- some rows of the rest, none of them twice
pub record ArePart (rest : ℕ → Option Row) (rows : List Row) : Type 0 where
  pub some : 0 < length rows
  pub of : AreOf rest rows

-- the next n rows of the rest in the order of the index, or all that are left; asking for none counts as one
pub record AreNext (index n : ℕ) (rest : ℕ → Option Row) (rows : List Row) : Type 0 where
  pub part : ArePart rest rows
  pub in_order : (i j : ℕ) (a b : Row) → slice_get rows i ≡ Some a → slice_get rows j ≡ Some b → i < j → ComesBefore index a b
  pub before_rest : (i : ℕ) (a b : Row) → slice_get rows i ≡ Some a → without (keys_of rows) rest b.key ≡ Some b → ComesBefore index a b
  pub at_most : length rows ≤ max 1 n
  pub all_left : length rows < max 1 n → IsOver (without (keys_of rows) rest)

-- the rows that a cursor may hand out when the next n are asked for. A heap cursor chooses its part
abbrev pub HandsOutPart : Order → ℕ → (ℕ → Option Row) → List Row → Type 0
HandsOutPart (by_index index) n rest rows = AreNext index n rest rows
HandsOutPart by_heap n rest rows = ArePart rest rows
HandsOutPart by_keys n rest rows = ⊥

-- the keys that it may
abbrev pub HandsOutKeys : Order → ℕ → (ℕ → Option Row) → List ℕ → Type 0
HandsOutKeys by_keys n rest keys = (rows : List Row) × AreNext 0 n rest rows × (keys ≡ keys_of rows)
HandsOutKeys order n rest keys = ⊥
