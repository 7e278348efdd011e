-- For the crates above: what a list contains, by its first and its rest.
use Rattle.std.proofs.Common.{◌≡◌, zero, suc, ◌⊎◌, inl, inr, List, [], ◌∷◌, refl, arith, Contains}

pub Contains-first : {X : Type 0} (x : X) (xs : List X) → Contains (x ∷ xs) x
Contains-first x xs = (zero, omega arith, refl)

pub Contains-rest : {X : Type 0} (x e : X) (xs : List X) → Contains xs e → Contains (x ∷ xs) e
Contains-rest x e xs (k, within, is) = (suc k, omega arith, is)

pub Contains-cases : {X : Type 0} (x e : X) (xs : List X) → Contains (x ∷ xs) e → (x ≡ e) ⊎ Contains xs e
Contains-cases x e xs (zero, within, is) = inl is
Contains-cases x e xs (suc k, within, is) = inr (k, omega arith, is)

pub Contains-none : {X : Type 0} (e : X) → ¬ Contains [] e
Contains-none e (k, within, is) = absurd (omega arith)

pub Contains-one : {X : Type 0} (x e : X) → Contains (x ∷ []) e → x ≡ e
Contains-one x e (zero, within, is) = is
Contains-one x e (suc k, within, is) = absurd (omega arith)
