-- Tests of two parts.
use Rattle.std.proofs.Common.{◌≡◌, ◌≢◌, ◌⊎◌, ◌↔◌, ℕ, Bool, true, false, IsTrue, not, inr, ⊎_elim, refl}
use Rattle.tuple_header.specs.declared.version.Header.{Header}
use Rattle.visibility.specs.Seeing.{VisibleBy}
use Rattle.visibility.specs.Visible.{IsFrozen}
use Rattle.visibility.proofs.Makers.{visible-of, made-of, kept-of}

-- the first part is not so
pub second-part : (b : Bool) (F R : Type 0) → ¬ F → (IsTrue b ↔ R) → IsTrue b ↔ (F ⊎ R)
second-part b F R not_first same = (λ t. inr (same.0 t), λ s. ⊎_elim (λ f. absurd (not_first f)) same.1 s)

-- the first part is so
pub other-part : (b : Bool) (F R : Type 0) → F → (IsTrue b ↔ R) → IsTrue b ↔ (F × R)
other-part b F R first same = (λ t. (first, same.0 t), λ s. same.1 s.1)

-- made, and not deleted
pub made-kept : (deleted : Bool) (R : ℕ → Type 0) (h : Header) → IsFrozen h ⊎ R h.xmin.0 → (IsTrue deleted ↔ ((h.xmax.0 ≢ 0) × R h.xmax.0))
    → IsTrue (not deleted) ↔ VisibleBy R h
made-kept true R h m d =
    let gone = d.0 refl in
    (λ t. absurd (cc), λ v. absurd (kept-of R h v gone.0 gone.1))
made-kept false R h m d =
    (λ t. visible-of R h m (λ some r. absurd (let f : false ≡ true = d.1 (some, r) in cc)), λ v. refl)

-- not made
pub not-made : (made : Bool) (R : ℕ → Type 0) (h : Header) → made ≡ false → (IsTrue made ↔ (IsFrozen h ⊎ R h.xmin.0)) → IsTrue made ↔ VisibleBy R h
not-made true R h none m = absurd (cc)
not-made false R h none m = (λ t. absurd (cc), λ v. m.1 (made-of R h v))
