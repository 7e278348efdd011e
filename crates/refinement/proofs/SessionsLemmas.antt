-- The sessions of an engine and of a model after one of them has changed.
use Rattle.std.proofs.Common.{◌≡◌, ◌≢◌, ℕ, Option, Some, None, sym, ◌∙◌, subst, ◌⊎◌, inl, inr}
use Rattle.std.specs.Prelude.{Contains}
use Rattle.std.proofs.lemmas.Bool.{cases_eq}
use Rattle.std.proofs.lemmas.Option.{same_Some}
use Rattle.history.specs.World.{World, OpenSession, Holds, start_now}
use Rattle.refinement.specs.Heap.{SeenSession, Heap, StatementSees, CursorSees}
use Rattle.visibility.specs.Seeing.{IsRunning}
use Rattle.refinement.specs.Agrees.{SessionAgrees, HeapAgrees}

-- what holds of the one value
pub at_value : {A : Type 0} (P : A → Type 0) (o : Option A) (x y : A) → o ≡ Some x → P x → o ≡ Some y → P y
at_value P o x y is p is' = subst P (same_Some x y (sym is ∙ is')) p

-- the session and its model agree
abbrev pub Matches : Heap → World → ℕ → SeenSession → Type 0
Matches h w s e = (m : OpenSession) × (w.session s ≡ Some m) × SessionAgrees h.status h.version w.history (StatementSees h e.isolation) (start_now w.history m) (CursorSees h e.isolation) e m

module _ (h h' : Heap) (w w' : World) (s : ℕ) (agrees : HeapAgrees h w)
    (others : (o : ℕ) → o ≢ s → h'.session o ≡ h.session o)
    (models : (o : ℕ) → o ≢ s → w'.session o ≡ w.session o) where
  pub opened-change :
      ((o : ℕ) (e : SeenSession) (m : OpenSession) → o ≢ s → h.session o ≡ Some e → w.session o ≡ Some m → SessionAgrees h.status h.version w.history (StatementSees h e.isolation) (start_now w.history m) (CursorSees h e.isolation) e m → SessionAgrees h'.status h'.version w'.history (StatementSees h' e.isolation) (start_now w'.history m) (CursorSees h' e.isolation) e m)
      → ((e : SeenSession) → h'.session s ≡ Some e → Matches h' w' s e)
      → (o : ℕ) (e : SeenSession) → h'.session o ≡ Some e → Matches h' w' o e
  opened-change keep mine o e at = elim (cases_eq o s) [
    | inl same ↦ subst (λ p. Matches h' w' p e) (sym same) (mine e (subst (λ p. h'.session p ≡ Some e) same at))
    | inr ne ↦ (let before : h.session o ≡ Some e = sym (others o ne) ∙ at in let old = agrees.opened o e before in (old.0, models o ne ∙ old.1, keep o e old.0 ne before old.1 old.2))
  ]

  pub idle-change : (h'.session s ≡ None → w'.session s ≡ None) → (o : ℕ) → h'.session o ≡ None → w'.session o ≡ None
  idle-change mine o at = elim (cases_eq o s) [
    | inl same ↦ subst (λ p. w'.session p ≡ None) (sym same) (mine (subst (λ p. h'.session p ≡ None) same at))
    | inr ne ↦ models o ne ∙ agrees.idle o (sym (others o ne) ∙ at)
  ]

  pub owned-change :
      ((x : ℕ) → IsRunning h'.status x → (IsRunning h.status x × ((e : SeenSession) → h.session s ≡ Some e → (Contains e.own x → ⊥))) ⊎ ((e : SeenSession) × (h'.session s ≡ Some e) × (Contains e.own x)))
      → (x : ℕ) → IsRunning h'.status x → (o : ℕ) × (e : SeenSession) × (h'.session o ≡ Some e) × (Contains e.own x)
  owned-change keep x active = elim (keep x active) [
    | inl old ↦ (let by = agrees.owned x old.0 in elim (cases_eq by.0 s) [
      | inl same ↦ absurd (old.1 by.1 (subst (λ p. h.session p ≡ Some by.1) same by.2) by.3)
      | inr ne ↦ (by.0, by.1, others by.0 ne ∙ by.2, by.3)
    ])
    | inr new ↦ (s, new.0, new.1, new.2)
  ]

  pub apart-change :
      ((o x : ℕ) (e f : SeenSession) → o ≢ s → h'.session s ≡ Some e → h.session o ≡ Some f → Contains e.own x → Contains f.own x → ⊥)
      → (a b : ℕ) (e f : SeenSession) (x : ℕ) → h'.session a ≡ Some e → h'.session b ≡ Some f → Contains e.own x → Contains f.own x → a ≡ b
  apart-change mine a b e f x at bt own own' = elim (cases_eq a s) [
    | inl same ↦ elim (cases_eq b s) [
      | inl same' ↦ same ∙ sym same'
      | inr ne ↦ absurd (mine b x e f ne (subst (λ p. h'.session p ≡ Some e) same at) (sym (others b ne) ∙ bt) own own')
    ]
    | inr ne ↦ elim (cases_eq b s) [
      | inl same ↦ absurd (mine a x f e ne (subst (λ p. h'.session p ≡ Some f) same bt) (sym (others a ne) ∙ at) own' own)
      | inr ne' ↦ agrees.apart a b e f x (sym (others a ne) ∙ at) (sym (others b ne') ∙ bt) own own'
    ]
  ]

  pub alone-change : ((o k : ℕ) → o ≢ s → Holds w' s k → Holds w o k → ⊥) → (a b k : ℕ) → Holds w' a k → Holds w' b k → a ≡ b
  alone-change mine a b k p q = elim (cases_eq a s) [
    | inl same ↦ elim (cases_eq b s) [
      | inl same' ↦ same ∙ sym same'
      | inr ne ↦ absurd (mine b k ne (subst (λ o. Holds w' o k) same p) (before b ne q))
    ]
    | inr ne ↦ elim (cases_eq b s) [
      | inl same ↦ absurd (mine a k ne (subst (λ o. Holds w' o k) same q) (before a ne p))
      | inr ne' ↦ agrees.alone a b k (before a ne p) (before b ne' q)
    ]
  ]
    where
      before : (o : ℕ) → o ≢ s → Holds w' o k → Holds w o k
      before o ne r = (r.0, sym (models o ne) ∙ r.1, r.2)
