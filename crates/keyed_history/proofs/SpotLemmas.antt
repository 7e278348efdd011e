-- Keys with numbers, in their order.
use Rattle.std.proofs.Common.{◌≡◌, ℕ, ◌<◌, ◌==◌, ◌&&◌, Option, Some, None, true, false, refl, sym, ap, ◌∙◌, subst, arith}
use Rattle.std.proofs.lemmas.Grind.{common_steps}
use Rattle.std.specs.Prelude.{IsSome}
use Rattle.std.specs.BTreeMap.{BTreeMap, get}
use Rattle.std.specs.BTreeMap.Range.{IsInRange}
use Rattle.std.specs.declared.ops.Bound.TheVariants.{Included, Excluded}
use Rattle.std.specs.Ordering.{nat_cmp, is_eq, is_lt}
use Rattle.std.specs.Cmp.{tied_then, unsigned_tied}
use Rattle.keyed_history.specs.Spots.{by_key, noted_at}

-- two keys with numbers are the same where both parts are
pub tied : (key n k m : ℕ) → is_eq (by_key (key, n) (k, m)) ≡ (key == k && n == m)
tied key n k m = sym (tied_then (nat_cmp key k) (nat_cmp n m)) ∙ (ap (λ b. b && is_eq (nat_cmp n m)) (unsigned_tied key k) ∙ ap (λ b. key == k && b) (unsigned_tied n m))

pub in_range : (key n m : ℕ) → m < n → IsInRange by_key (Included (key, 0)) (Excluded (key, n)) (key, m)
in_range key n m lt = grind (arith, common_steps)

pub from_range : (key n k m : ℕ) → IsInRange by_key (Included (key, 0)) (Excluded (key, n)) (k, m) → (k ≡ key) × (m < n)
from_range key n k m within = grind (arith, common_steps)

-- behind the last of the range none is left
pub none_between : (spots : BTreeMap (ℕ × ℕ) ℕ) (key n k p m : ℕ) → k ≡ key
    → ((q : ℕ × ℕ) → IsInRange by_key (Included (key, 0)) (Excluded (key, n)) q → IsSome (get by_key spots q) → is_lt (by_key (k, p) q) ≡ false)
    → p < m → m < n → noted_at spots key m ≡ None
none_between spots key n k p m same greatest above below = by (noted_at spots key m) refl
  where
    later : is_lt (by_key (k, p) (key, m)) ≡ true
    later = grind (arith, common_steps)

    by : (o : Option ℕ) → noted_at spots key m ≡ o → noted_at spots key m ≡ None
    by None is = is
    by (Some x) is = absurd (let never : false ≡ true = sym (greatest (key, m) (in_range key n m below) (subst IsSome (sym is) refl)) ∙ later in cc)
