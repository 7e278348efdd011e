-- For the crates above: two places are one, or not.
use Rattle.std.proofs.Common.{◌≡◌, ◌≢◌, ℕ, ◌⊎◌, inl, inr, ap, ◌∙◌}
use Rattle.std.proofs.lemmas.Bool.{cases_eq}
use Rattle.xid_circle.specs.declared.Tid.{Tid}

pub same-tid : (p q : Tid) → p.page ≡ q.page → p.slot ≡ q.slot → p ≡ q
same-tid p q page slot = ap (λ n. place n p.slot) page ∙ ap (λ n. place q.page n) slot
  where
    place : ℕ → ℕ → Tid
    place page slot = record { page = page; slot = slot }

pub cases-tid : (p q : Tid) → (p ≡ q) ⊎ (p ≢ q)
cases-tid p q = elim (cases_eq p.page q.page) [
  | inl page ↦ elim (cases_eq p.slot q.slot) [
    | inl slot ↦ inl (same-tid p q page slot)
    | inr other ↦ inr (λ e. other (ap (λ (t : Tid). t.slot) e))
  ]
  | inr other ↦ inr (λ e. other (ap (λ (t : Tid). t.page) e))
]
