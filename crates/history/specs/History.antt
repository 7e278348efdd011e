-- To believe, 1 of 5 (docs/reading.md).
-- A history that is never cleaned: what has committed, and what is read of it. After Berenson et al. 1995, "A
-- Critique of ANSI SQL Isolation Levels", section 4.2 (snapshot isolation). The data item is the key.
use Rattle.std.specs.Prelude.{◌≡◌, ℕ, ◌≤◌, ◌==◌, if◌then◌else◌, List, [], ◌∷◌, take, Option, Some, None, IsSome, slice_get}
use Rattle.std.specs.Option.{option_or, option_flatten, unwrap_or}
use Rattle.tuple_header.specs.declared.version.Row.{Row}

-- a key with a row, or with nothing where the row is deleted, and how many transactions had committed when the snapshot was
-- taken by which it was written
pub record Write : Type 0 where
  pub start : ℕ
  pub key : ℕ
  pub row : Option Row

-- a committed transaction: what it wrote, the oldest write first. A history is the list of them in the order in which they
-- committed
abbrev pub Transaction : Type 0
Transaction = List Write

-- what a write says of the key, if it is a write of that key
abbrev pub said : Write → ℕ → Option (Option Row)
said write key = if write.key == key then Some write.row else None

-- what the last write to the key says, if there is one
abbrev pub written : List Write → ℕ → Option (Option Row)
written [] key = None
written (write ∷ later) key = option_or (written later key) (said write key)

-- what the last transaction that wrote the key says of it
abbrev pub latest : List Transaction → ℕ → Option (Option Row)
latest [] key = None
latest (transaction ∷ later) key = option_or (latest later key) (written transaction key)

-- the row of the key after the first n transactions, if it has one
abbrev pub committed : List Transaction → ℕ → ℕ → Option Row
committed history n key = option_flatten (latest (take n history) key)

-- What is read by one who began after the first start transactions and has written this. It is the own write, else what
-- was committed at the start ("Transaction Isolation" in the manual's chapter "Concurrency Control")
abbrev pub reading : List Transaction → ℕ → List Write → ℕ → Option Row
reading history start writes key = unwrap_or (written writes key) (committed history start key)

-- a transaction that committed since the start wrote the key
abbrev pub IsLate : List Transaction → ℕ → ℕ → Type 0
IsLate history start key = (n : ℕ) × (t : Transaction) × (start ≤ n) × (slice_get history n ≡ Some t) × IsSome (written t key)
