-- Where the transactions of a history wrote a key.
use Rattle.std.specs.Prelude.{◌≡◌, ℕ, suc, ◌==◌, ◌&&◌, if◌then◌else◌, List, [], ◌∷◌, Option, Some, None, IfSome, slice_get}
use Rattle.std.specs.Option.{option_or, option_map, is_some}
use Rattle.std.specs.BTreeMap.{BTreeMap}
use Rattle.tuple_header.specs.declared.version.Row.{Row}
use Rattle.history.specs.History.{Write, Transaction}
use Rattle.keyed_history.specs.Spots.{noted_at}

-- the row, if there is one, is of the key
abbrev pub IsRowOf : ℕ → Option Row → Type 0
IsRowOf key row = IfSome row (λ r. r.key ≡ key)

-- where the last write to the key stands, if there is one
abbrev pub last_place : List Write → ℕ → Option ℕ
last_place [] key = None
last_place (write ∷ later) key = option_or (option_map suc (last_place later key)) (if write.key == key then Some 0 else None)

abbrev pub place_by : Option Transaction → ℕ → Option ℕ
place_by None key = None
place_by (Some t) key = last_place t key

-- the same, in the transaction of this number
abbrev pub last_place_in : List Transaction → ℕ → ℕ → Option ℕ
last_place_in history n key = place_by (slice_get history n) key

-- the spots say where each transaction wrote each key
abbrev pub AreSpotsOf : BTreeMap (ℕ × ℕ) ℕ → List Transaction → Type 0
AreSpotsOf spots history = (key n : ℕ) → noted_at spots key n ≡ last_place_in history n key

-- of the transaction of the number n these writes are noted besides
abbrev pub HaveNoted : BTreeMap (ℕ × ℕ) ℕ → BTreeMap (ℕ × ℕ) ℕ → ℕ → List Write → Type 0
HaveNoted old new n writes = (key m : ℕ) → noted_at new key m ≡ (if n == m then last_place writes key else noted_at old key m)

-- and of these keys nothing is noted any more
abbrev pub HaveForgotten : BTreeMap (ℕ × ℕ) ℕ → BTreeMap (ℕ × ℕ) ℕ → ℕ → List Write → Type 0
HaveForgotten old new n writes = (key m : ℕ) → noted_at new key m ≡ (if n == m && is_some (last_place writes key) then None else noted_at old key m)
