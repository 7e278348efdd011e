-- The rows of some keys, in a list.
use Rattle.std.specs.Prelude.{◌≡◌, ◌≢◌, ℕ, ◌≤◌, ◌==◌, if◌then◌else◌, Bool, false, List, take, Option, Some, None}
use Rattle.std.specs.List.{list_any}
use Rattle.std.specs.Option.{option_or}
use Rattle.tuple_header.specs.declared.version.Row.{Row}
use Rattle.history.specs.History.{Transaction, latest}
use Rattle.plain_cursor.specs.Order.{row_of_key}

abbrev pub has : List ℕ → ℕ → Bool
has keys key = list_any (λ k. k == key) keys

-- the row of the key is there too
abbrev pub AddsRow : (ℕ → Option Row) → ℕ → List Row → List Row → Type 0
AddsRow rows key old new = (row_of_key new key ≡ option_or (row_of_key old key) (rows key)) × ((k : ℕ) → k ≢ key → row_of_key new k ≡ row_of_key old k)

-- of these keys, and of no other, the list has the rows
abbrev pub Covers : (ℕ → Option Row) → List Row → List ℕ → Type 0
Covers rows list keys = (key : ℕ) → row_of_key list key ≡ (if has keys key then rows key else None)

-- what is said is no row that passes
abbrev pub IsUnwanted : (Row → Bool) → Option (Option Row) → Type 0
IsUnwanted test said = (row : Row) → said ≡ Some (Some row) → test row ≡ false

-- after none of the first n transactions the key has a row that passes
abbrev pub AreUnwanted : (Row → Bool) → List Transaction → ℕ → ℕ → Type 0
AreUnwanted test history n key = (k : ℕ) → k ≤ n → IsUnwanted test (latest (take k history) key)
