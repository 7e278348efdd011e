-- The circle of transaction ids (PostgreSQL manual, Routine Vacuuming, "Preventing Transaction ID Wraparound
-- Failures"). There ids are compared modulo 2 ^ 32, so that of each normal id two billion others are older and two
-- billion are newer.
use Rattle.std.specs.Prelude.{ℕ, zero, suc, pos, ◌+◌, ◌-◌, ◌%◌, ◌^◌, ◌<◌, ◌≤◌, ◌<ℤ◌, ◌==◌, if◌then◌else◌, ◌↔◌}
use Rattle.std.specs.Int.{w32, cast_signed}

-- 0, 1 and 2 are no ids of transactions (src/include/access/transam.h: invalid, bootstrap and frozen)
abbrev pub IsNormal : ℕ → Type 0
IsNormal a = 3 ≤ a

-- to - from, modulo 2 ^ 32
abbrev pub distance_of : ℕ → ℕ → ℕ
distance_of from to = (to + (2 ^ 32 - from)) % 2 ^ 32

-- a - b, modulo 2 ^ 32 and read as signed, is negative
abbrev pub Precedes : ℕ → ℕ → Type 0
Precedes a b = cast_signed w32 (distance_of b a) <ℤ pos 0

-- after the last number comes 3
abbrev pub next_of : ℕ → ℕ
next_of a = if a == 2 ^ 32 - 1 then 3 else a + 1

-- the id that is given n turns after first
abbrev pub given : ℕ → ℕ → ℕ
given first zero = first
given first (suc n) = next_of (given first n)

-- The law of the circle is of ids that are given after one id, less than once round and less than 2 ^ 31 away from it.
-- Of two of them that precedes which was given first.
abbrev pub OrderIsThatOfGiving : Type 0
OrderIsThatOfGiving = (first i j : ℕ) → IsNormal first → first < 2 ^ 32 → i < 2 ^ 32 - 3 → j < 2 ^ 32 - 3
    → distance_of first (given first i) < 2 ^ 31 → distance_of first (given first j) < 2 ^ 31
    → (Precedes (given first i) (given first j) ↔ (i < j))
