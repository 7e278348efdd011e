-- The machine value of a struct whose one field is a pointer, as `Handle` and `Block` are. Assumes `Logic`.
use Rattle.std.proofs.Common.{◌≡◌, ℕ, zero, suc, List, [], ◌∷◌, ◌++◌, not, subst, refl, ◌∙◌, lit<}
use mathlib.Core.Bool.{Bool}
use lib.Dec.{T}
use seplogic.Ra.Ura.{Ura}
use mir.Syntax.{tnil, tcons, ty_ptr, ty_struct}
use mir.Val.{Val, vstruct, vcons, vnil, of_list}
use base.Logic.{ent, emp}
use base.Fml.{Fml}
use types.Logic.{Logic, sem}
use denote.Builtin.{RawPtr, unit}
use denote.RawPtr.{Ptr, block_ptr, null_ptr, ptr_val}
use denote.Shadow.{shadow, makes_shadow}
use denote.Signature.{Slot, plain}
use denote.Struct.Struct.{Struct}
use Rattle.core.proofs.cell.Inside.{Good}
use Rattle.std.specs.Prelude.{Option, Some, None, IsSome}

-- the k-th parameter of a signature
abbrev pub param_at : {n : ℕ} → ℕ → List (Slot n) → Slot n
param_at k [] = plain (λ _. unit)
param_at zero (s ∷ ss) = s
param_at (suc k) (s ∷ ss) = param_at k ss

pub ptr_typed : (p : Ptr) → Good ty_ptr (ptr_val p)
ptr_typed (block_ptr b o) = (tt, tt)
ptr_typed null_ptr = (tt, record { fits = lit< tt })

abbrev pub pointer_val : Ptr → Val
pointer_val p = vstruct (vcons (ptr_val p) vnil)

abbrev pub pointer_own : Ptr → List Val → Fml
pointer_own p = (Struct (record { name = []; args = []; types = []; fields = RawPtr ∷ [] })).own_val (p, tt)

pub pointer_told : (p : Ptr) (vs : List Val) → shadow (pointer_own p vs) → vs ≡ pointer_val p ∷ []
pointer_told p vs s = s.1.0 ∙ (λ i. vstruct (of_list (s.1.1.0 i ++ [])) ∷ [])

pub pointer_made : {M : Type 1} {𝓤 : Ura M} (𝓛 : Logic 𝓤) (p : Ptr) → ent 𝓤 (emp 𝓤) (sem 𝓛 (pointer_own p (pointer_val p ∷ [])))
pointer_made 𝓛 p = makes_shadow 𝓛 (pointer_own p (pointer_val p ∷ [])) (λ _. (tt, (tt, tt))) ((ptr_val p ∷ [], tt), (refl, (refl, tt)))

pub pointer_typed : (p : Ptr) → Good (ty_struct [] (tcons ty_ptr tnil)) (pointer_val p)
pointer_typed (block_ptr b o) = (tt, (tt, tt))
pointer_typed null_ptr = (tt, (record { fits = lit< tt }, tt))

pub by_some {ℓ} : {A : Type 0} {X : Type ℓ} (h : Option A) → IsSome h → ((y : A) → h ≡ Some y → X) → X
by_some None s k = absurd (subst (λ (b : Bool). T (not b)) s tt)
by_some (Some y) s k = k y refl
