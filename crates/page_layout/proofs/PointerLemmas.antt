-- A pointer is read from its word.
use Rattle.std.proofs.Common.{◌≡◌, ◌≢◌, ⊎_elim, inl, inr, ◌⊎◌, ℕ, ◌+◌, ◌*◌, ◌%◌, ◌/◌, ◌^◌, ◌<◌, ◌≤◌, nat_lt, List, refl, arith}
use Rattle.std.specs.Int.{next_multiple_of}
use Rattle.std.proofs.lemmas.Bool.{cases_Bool, ltb-true, ltb-false}
use Rattle.std.proofs.lemmas.Bool.Decides.{nat_tests}
use Rattle.tuple_header.specs.Layout.{number_at}
use Rattle.page_layout.specs.declared.pointer.Pointer.{Pointer}
use Rattle.page_layout.specs.Layout.{pointer_of, word_of, IsPointed, pointer_in}

pub word-back : (p : Pointer) → IsPointed p → pointer_of (word_of p) ≡ p
word-back Pointer.Unused fits = refl
word-back (Pointer.Normal e) fits =
    let kind : (e.from + 32768 + e.len * 131072) / 32768 % 4 ≡ 1 = omega (arith, fits.0, fits.1) in
    let from : (e.from + 32768 + e.len * 131072) % 32768 ≡ e.from = omega (arith, fits.0, fits.1) in
    let len : (e.from + 32768 + e.len * 131072) / 131072 ≡ e.len = omega (arith, fits.0, fits.1) in
    rw (kind, from, len) refl
word-back (Pointer.Redirect target) fits =
    let kind : (target + 65536) / 32768 % 4 ≡ 2 = omega (arith, fits) in
    let offset : (target + 65536) % 32768 ≡ target = omega (arith, fits) in
    rw (kind, offset) refl
word-back Pointer.Dead fits = refl

pub word-small : (p : Pointer) → IsPointed p → word_of p < 256 ^ 4
word-small Pointer.Unused fits = omega arith
word-small (Pointer.Normal e) fits = omega (arith, fits.0, fits.1)
word-small (Pointer.Redirect target) fits = omega (arith, fits)
word-small Pointer.Dead fits = omega arith

pub pointer-read : (b : List ℕ) (i : ℕ) → pointer_in b i ≡ pointer_of (number_at (24 + 4 * i) 4 b)
unfolding pointer_in
pointer-read b i = refl

-- two pointers share no byte
pub beside : (i j : ℕ) → j ≢ i → (24 + 4 * j + 4 ≤ 24 + 4 * i) ⊎ (24 + 4 * i + 4 ≤ 24 + 4 * j)
beside i j other =
    ⊎_elim (λ t. let below = ltb-true j i t in inl (omega arith))
    (λ t. let above = ltb-false j i t in inr (⊎_elim (λ e. absurd (other e)) (λ past. omega arith) (apart_or j i above)))
    (cases_Bool (nat_lt j i))
  where
    apart_or : (j i : ℕ) → i ≤ j → (j ≡ i) ⊎ (i < j)
    apart_or j i h = ⊎_elim (λ t. inr (ltb-true i j t)) (λ t. let below = ltb-false i j t in inl (omega arith)) (cases_Bool (nat_lt i j))

-- what a length takes, rounded up
pub rounded-up : (n : ℕ) → n ≤ next_multiple_of n 8
rounded-up n = grind (arith, nat_tests)
