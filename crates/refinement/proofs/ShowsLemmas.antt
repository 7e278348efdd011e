-- What a change of the versions, of the test or of the rows does to `Shows`.
use Rattle.std.proofs.Common.{◌≡◌, ◌≢◌, ℕ, Option, Some, None, Bool, true, false, refl, sym, ap, ◌∙◌, subst, inl, inr}
use Rattle.std.proofs.lemmas.Bool.{cases_eq, cases_Bool}
use Rattle.std.proofs.lemmas.Option.{none-some}
use Rattle.xid_circle.specs.declared.Tid.{Tid}
use Rattle.tuple_header.specs.declared.version.Row.{Row}
use Rattle.tuple_header.specs.Version.{Version}
use Rattle.refinement.specs.Visible.{At}
use Rattle.refinement.specs.Changes.{AddsVersion, Alters}
use Rattle.refinement.specs.Agrees.{Shows}
use Rattle.refinement.proofs.Versions.{Adds-cases, Adds-old, Alters-cases, Alters-same, SomeVersion-alters}

-- the same versions are seen, and the rows are the same
pub Shows-same : {store : Tid → Option Version} {V V' : Version → Type 0} {f g : ℕ → Option Row}
    → ((p : Tid) (v : Version) → At store p v → V v → V' v) → ((p : Tid) (v : Version) → At store p v → V' v → V v)
    → ((k : ℕ) → g k ≡ f k) → Shows store V f → Shows store V' g
Shows-same to back same h = record {
  sound = λ p v at seen. same v.row.key ∙ h.sound p v at (back p v at seen);
  there = λ k r e. let got = h.there k r (sym (same k) ∙ e) in (got.0, got.1, got.2, got.3, to got.0 got.1 got.2 got.4);
  one = λ p q v u at bt seen seen' key. h.one p q v u at bt (back p v at seen) (back q u bt seen') key;
}

-- a new version that is not seen
pub Shows-add_unseen : {store store' : Tid → Option Version} {place : Tid} {new : Version} {V V' : Version → Type 0} {f : ℕ → Option Row}
    → AddsVersion store store' place new → ((p : Tid) (v : Version) → At store p v → V v → V' v) → ((p : Tid) (v : Version) → At store p v → V' v → V v)
    → ¬ V' new → Shows store V f → Shows store' V' f
Shows-add_unseen {store} {store'} {place} {new} {V} {V'} {f} adds to back hidden h = record {
  sound = λ p v at seen. h.sound p v (old p v at seen) (back p v (old p v at seen) seen);
  there = λ k r e. let got = h.there k r e in (got.0, got.1, Adds-old adds got.0 got.1 got.2, got.3, to got.0 got.1 got.2 got.4);
  one = λ p q v u at bt seen seen' key. h.one p q v u (old p v at seen) (old q u bt seen') (back p v (old p v at seen) seen) (back q u (old q u bt seen') seen') key;
}
  where
    old : (p : Tid) (v : Version) → At store' p v → V' v → At store p v
    old p v at seen = elim (Adds-cases adds p v at) [ inl before ↦ before | inr now ↦ absurd (hidden (subst V' now.1 seen)) ]

-- a new version that is seen, of a key that had no row
pub Shows-add_seen : {store store' : Tid → Option Version} {place : Tid} {new : Version} {V V' : Version → Type 0} {f g : ℕ → Option Row}
    → AddsVersion store store' place new → ((p : Tid) (v : Version) → At store p v → V v → V' v) → ((p : Tid) (v : Version) → At store p v → V' v → V v)
    → V' new → f new.row.key ≡ None → g new.row.key ≡ Some new.row → ((k : ℕ) → k ≢ new.row.key → g k ≡ f k)
    → Shows store V f → Shows store' V' g
Shows-add_seen {store} {store'} {place} {new} {V} {V'} {f} {g} adds to back here none row others h = record {
  sound = λ p v at seen. elim (Adds-cases adds p v at) [
    | inl before ↦ others v.row.key (apart p v before seen) ∙ h.sound p v before (back p v before seen)
    | inr now ↦ subst (λ (u : Version). g u.row.key ≡ Some u.row) (sym now.1) row
  ];
  there = λ k r e. elim (cases_eq k new.row.key) [
    | inl same ↦ (place, new, adds.here, sym same, here)
    | inr ne ↦ (let got = h.there k r (sym (others k ne) ∙ e) in (got.0, got.1, Adds-old adds got.0 got.1 got.2, got.3, to got.0 got.1 got.2 got.4))
  ];
  one = λ p q v u at bt seen seen' key. elim (Adds-cases adds p v at) [
    | inl before ↦ elim (Adds-cases adds q u bt) [
      | inl before' ↦ h.one p q v u before before' (back p v before seen) (back q u before' seen') key
      | inr now ↦ absurd (apart p v before seen (key ∙ ap (λ (x : Version). x.row.key) now.1))
    ]
    | inr now ↦ elim (Adds-cases adds q u bt) [
      | inl before ↦ absurd (apart q u before seen' (sym key ∙ ap (λ (x : Version). x.row.key) now.1))
      | inr now' ↦ now.0 ∙ sym now'.0
    ]
  ];
}
  where
    -- no seen version had the key
    apart : (p : Tid) (v : Version) → At store p v → V' v → v.row.key ≢ new.row.key
    apart p v before seen key = none-some v.row (sym none ∙ (ap f (sym key) ∙ h.sound p v before (back p v before seen)))

-- a version that is changed, and seen as before
pub Shows-alter_same : {store store' : Tid → Option Version} {place : Tid} {old new : Version} {V V' : Version → Type 0} {f : ℕ → Option Row}
    → Alters store store' place old new → new.row ≡ old.row → (V old → V' new) → (V' new → V old)
    → ((p : Tid) (v : Version) → At store p v → V v → V' v) → ((p : Tid) (v : Version) → At store p v → V' v → V v)
    → Shows store V f → Shows store' V' f
Shows-alter_same {store} {store'} {place} {old} {new} {V} {V'} {f} alters row here here' to back h = record {
  sound = λ p v at seen. elim (Alters-cases alters p v at) [
    | inl same ↦ (let was = h.sound place old alters.before (here' (subst V' same.1 seen)) in
        subst (λ (u : Version). f u.row.key ≡ Some u.row) (sym same.1) (ap f (ap (λ (r : Row). r.key) row) ∙ (was ∙ ap Some (sym row))))
    | inr other ↦ h.sound p v other.1 (back p v other.1 seen)
  ];
  there = λ k r e. SomeVersion-alters alters k V V' (ap (λ (r : Row). r.key) row) here to (h.there k r e);
  one = λ p q v u at bt seen seen' key.
      let a = before p v at seen in let b = before q u bt seen' in
      h.one p q a.0 b.0 a.1 b.1 a.2 b.2 (a.3 ∙ (key ∙ sym b.3));
}
  where
    -- what stood at the place
    before : (p : Tid) (v : Version) → At store' p v → V' v → (u : Version) × At store p u × V u × (u.row.key ≡ v.row.key)
    before p v at seen = elim (Alters-cases alters p v at) [
      | inl same ↦ (old, subst (λ q. At store q old) (sym same.0) alters.before, here' (subst V' same.1 seen), ap (λ (r : Row). r.key) (sym row) ∙ ap (λ (u : Version). u.row.key) (sym same.1))
      | inr other ↦ (v, other.1, back p v other.1 seen, refl)
    ]

-- a version that is changed, and no longer seen
pub Shows-alter_hidden : {store store' : Tid → Option Version} {place : Tid} {old new : Version} {V V' : Version → Type 0} {f g : ℕ → Option Row}
    → Alters store store' place old new → V old → ¬ V' new → g old.row.key ≡ None → ((k : ℕ) → k ≢ old.row.key → g k ≡ f k)
    → ((p : Tid) (v : Version) → At store p v → V v → V' v) → ((p : Tid) (v : Version) → At store p v → V' v → V v)
    → Shows store V f → Shows store' V' g
Shows-alter_hidden {store} {store'} {place} {old} {new} {V} {V'} {f} {g} alters seen_old hidden none others to back h = record {
  sound = λ p v at seen. (let b = before p v at seen in
      others v.row.key (λ key. b.0 (h.one p place v old b.1 alters.before b.2 seen_old key)) ∙ h.sound p v b.1 b.2);
  there = λ k r e. elim (cases_eq k old.row.key) [
    | inl same ↦ absurd (none-some r (sym none ∙ (ap g (sym same) ∙ e)))
    | inr ne ↦ (let some = h.there k r (sym (others k ne) ∙ e) in
        (some.0, some.1, alters.others some.0 (λ same. ne (sym some.3 ∙ ap (λ (u : Version). u.row.key) (Alters-same alters some.1 (ap store (sym same) ∙ some.2)))) ∙ some.2, some.3, to some.0 some.1 some.2 some.4))
  ];
  one = λ p q v u at bt seen seen' key. let a = before p v at seen in let b = before q u bt seen' in h.one p q v u a.1 b.1 a.2 b.2 key;
}
  where
    before : (p : Tid) (v : Version) → At store' p v → V' v → (p ≢ place) × At store p v × V v
    before p v at seen = elim (Alters-cases alters p v at) [
      | inl same ↦ absurd (hidden (subst V' same.1 seen))
      | inr other ↦ (other.0, other.1, back p v other.1 seen)
    ]

-- two ways to see, chosen by the key
pub Shows-by_key : {store : Tid → Option Version} {V V₁ V₂ : Version → Type 0} {f f₁ f₂ : ℕ → Option Row} (c : ℕ → Bool)
    → ((p : Tid) (v : Version) → At store p v → c v.row.key ≡ true → (V₁ v → V v) × (V v → V₁ v)) → ((k : ℕ) → c k ≡ true → f k ≡ f₁ k)
    → ((p : Tid) (v : Version) → At store p v → c v.row.key ≡ false → (V₂ v → V v) × (V v → V₂ v)) → ((k : ℕ) → c k ≡ false → f k ≡ f₂ k)
    → Shows store V₁ f₁ → Shows store V₂ f₂ → Shows store V f
Shows-by_key {store} {V} {V₁} {V₂} {f} {f₁} {f₂} c one same₁ two same₂ h₁ h₂ = record {
  sound = λ p v at seen. elim (cases_Bool (c v.row.key)) [
    | inl yes' ↦ same₁ v.row.key yes' ∙ h₁.sound p v at ((one p v at yes').1 seen)
    | inr no' ↦ same₂ v.row.key no' ∙ h₂.sound p v at ((two p v at no').1 seen)
  ];
  there = λ k r e. elim (cases_Bool (c k)) [
    | inl yes' ↦ (let some = h₁.there k r (sym (same₁ k yes') ∙ e) in (some.0, some.1, some.2, some.3, (one some.0 some.1 some.2 (ap c some.3 ∙ yes')).0 some.4))
    | inr no' ↦ (let some = h₂.there k r (sym (same₂ k no') ∙ e) in (some.0, some.1, some.2, some.3, (two some.0 some.1 some.2 (ap c some.3 ∙ no')).0 some.4))
  ];
  one = λ p q v u at bt seen seen' key. elim (cases_Bool (c v.row.key)) [
    | inl yes' ↦ h₁.one p q v u at bt ((one p v at yes').1 seen) ((one q u bt (ap c (sym key) ∙ yes')).1 seen') key
    | inr no' ↦ h₂.one p q v u at bt ((two p v at no').1 seen) ((two q u bt (ap c (sym key) ∙ no')).1 seen') key
  ];
}
