-- The value of a key in the index.
use Rattle.std.proofs.Common.{◌≡◌, ℕ, ◌^◌, ◌<◌, ℤ, pos, sym, subst, arith, to_z, of_z}
use Rattle.std.specs.Int.{w128}
use Rattle.std.proofs.lemmas.Int.{to_z-of_z, fits_signed_from_abs}

pub read-back : (key : ℕ) (value : ℤ) → key < 2 ^ 64 → value ≡ pos key → to_z w128 (of_z w128 value) ≡ pos key
read-back key value small is =
    subst (λ v. to_z w128 (of_z w128 v) ≡ pos key) (sym is) (to_z-of_z w128 (pos key) (fits_signed_from_abs w128 (pos key) (omega (arith, small))))
