-- Where keys were written.
use Rattle.std.specs.Prelude.{ℕ, Option}
use Rattle.std.specs.BTreeMap.{BTreeMap, get}
use Rattle.std.specs.declared.cmp.Ordering.{Ordering}
use Rattle.std.specs.Ordering.{nat_cmp, ordering_then}

-- by key, and then by the number of the transaction
abbrev pub by_key : ℕ × ℕ → ℕ × ℕ → Ordering
by_key p q = ordering_then (nat_cmp p.0 q.0) (nat_cmp p.1 q.1)

-- the place of a write of the key in the transaction of this number
abbrev pub noted_at : BTreeMap (ℕ × ℕ) ℕ → ℕ → ℕ → Option ℕ
noted_at spots key n = get by_key spots (key, n)
