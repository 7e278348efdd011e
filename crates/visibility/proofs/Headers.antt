-- What a header without a fault is.
use Rattle.std.proofs.Common.{◌≡◌, Bool, true, false, List, [], ◌∷◌, Some, None, refl, sym, ◌∙◌}
use Rattle.std.specs.List.{find}
use Rattle.tuple_header.specs.declared.version.Header.{Header}
use Rattle.tuple_header.specs.declared.fault.TupleFault.{TupleFault}
use Rattle.tuple_header.specs.declared.fault.TupleFault.TheVariants.{Attributes, Masks, Xmin, Xmax, Ctid}
use Rattle.tuple_header.specs.Faults.{is_wrong_in, header_fault}

none-found : {X : Type 0} (p : X → Bool) (x : X) (xs : List X) → find p (x ∷ xs) ≡ None → (p x ≡ false) × (find p xs ≡ None)
none-found {X} p x xs e = cases (p x) refl
  where
    cases : (b : Bool) → p x ≡ b → (p x ≡ false) × (find p xs ≡ None)
    cases true h = absurd (let f : find p (x ∷ xs) ≡ Some x = rw h refl in cc)
    cases false h = (h, (let f : find p (x ∷ xs) ≡ find p xs = rw h refl in sym f ∙ e))

found-none : {X : Type 0} (p : X → Bool) (x : X) (xs : List X) → p x ≡ false → find p xs ≡ None → find p (x ∷ xs) ≡ None
found-none {X} p x xs h e = rw h e

-- no test finds a fault
pub record HasNoFault (h : Header) : Type 0 where
  pub attributes : is_wrong_in Attributes h ≡ false
  pub masks : is_wrong_in Masks h ≡ false
  pub xmin : is_wrong_in Xmin h ≡ false
  pub xmax : is_wrong_in Xmax h ≡ false
  pub ctid : is_wrong_in Ctid h ≡ false

pub no-fault : (h : Header) → header_fault h ≡ None → HasNoFault h
no-fault h e =
    let p : TupleFault → Bool = λ f. is_wrong_in f h in
    let a = none-found p Attributes (Masks ∷ Xmin ∷ Xmax ∷ Ctid ∷ []) e in
    let b = none-found p Masks (Xmin ∷ Xmax ∷ Ctid ∷ []) a.1 in
    let c = none-found p Xmin (Xmax ∷ Ctid ∷ []) b.1 in
    let d = none-found p Xmax (Ctid ∷ []) c.1 in
    let t = none-found p Ctid [] d.1 in
    record { attributes = a.0; masks = b.0; xmin = c.0; xmax = d.0; ctid = t.0 }

pub fault-no : (h : Header) → HasNoFault h → header_fault h ≡ None
fault-no h n =
    let p : TupleFault → Bool = λ f. is_wrong_in f h in
    found-none p Attributes (Masks ∷ Xmin ∷ Xmax ∷ Ctid ∷ []) n.attributes
    (found-none p Masks (Xmin ∷ Xmax ∷ Ctid ∷ []) n.masks
    (found-none p Xmin (Xmax ∷ Ctid ∷ []) n.xmin
    (found-none p Xmax (Ctid ∷ []) n.xmax
    (found-none p Ctid [] n.ctid refl))))
