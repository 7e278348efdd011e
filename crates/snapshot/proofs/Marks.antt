-- Marks into a list that grows and is cut.
use Rattle.std.proofs.Common.{◌≡◌, ◌≢◌, ℕ, zero, suc, ◌<◌, ◌≤◌, List, [], ◌∷◌, ◌++◌, length, take, reverse, get_or, Option, Some, None, arith, refl, sym, ap, ◌∙◌, subst}
use Rattle.std.proofs.lemmas.List.{take-append-le, take-take, length-take-le, take-map, length-map, get_or-map, append-nil, reverse-append}
use Rattle.std.specs.Option.{option_to_list}
use Rattle.std.specs.List.{Contains}
use Rattle.xid_circle.specs.Circle.{IsNormal}
use Rattle.xid_circle.specs.declared.Xid.{Xid}
use Rattle.commit_status.specs.Changes.{numbers}
use Rattle.snapshot.specs.Own.{newest, prefixes, AreMarks, AreNormal}

pub marks-more : (ms : List ℕ) (n m : ℕ) → AreMarks n ms → n ≤ m → AreMarks m ms
marks-more [] n m h l = tt
marks-more (k ∷ ms) n m h l = let a = h.0 in (omega arith, h.1)

pub mark-within : (marks : List ℕ) (n : ℕ) → AreMarks n marks → (i d : ℕ) → i < length marks → get_or marks i d ≤ n
mark-within [] n are i d within = absurd (omega arith)
mark-within (m ∷ ms) n are zero d within = are.0
mark-within (m ∷ ms) n are (suc i) d within =
    let rest = mark-within ms m are.1 i d (omega arith) in
    let first = are.0 in
    omega arith

pub prefixes-append : (ms ids more : List ℕ) (n : ℕ) → AreMarks n ms → n ≤ length ids → prefixes (ids ++ more) ms ≡ prefixes ids ms
prefixes-append [] ids more n h l = refl
prefixes-append (k ∷ ms) ids more n h l =
    let a = h.0 in
    let here = take-append-le k ids more (omega arith) in
    let rest = prefixes-append ms ids more k h.1 (omega arith) in
    cc

pub prefixes-take : (ms ids : List ℕ) (n m : ℕ) → AreMarks n ms → n ≤ m → prefixes (take m ids) ms ≡ prefixes ids ms
prefixes-take [] ids n m h l = refl
prefixes-take (k ∷ ms) ids n m h l =
    let a = h.0 in
    let here = take-take k m ids (omega arith) in
    let rest = prefixes-take ms ids k m h.1 (omega arith) in
    cc

pub normal-push : (ids : List Xid) (x : Xid) → AreNormal ids → IsNormal x.0 → AreNormal (ids ++ x ∷ [])
normal-push [] x all here zero y at = let e : x ≡ y = (let s : Some x ≡ Some y = at in cc) in subst (λ (z : Xid). IsNormal z.0) e here
normal-push [] x all here (suc i) y at = absurd (cc)
normal-push (z ∷ ids) x all here zero y at = all zero y at
normal-push (z ∷ ids) x all here (suc i) y at = normal-push ids x (λ j. all (suc j)) here i y at

pub normal-take : (n : ℕ) (ids : List Xid) → AreNormal ids → AreNormal (take n ids)
normal-take zero ids all i x at = absurd (cc)
normal-take (suc n) [] all i x at = absurd (cc)
normal-take (suc n) (z ∷ ids) all zero x at = all zero x at
normal-take (suc n) (z ∷ ids) all (suc i) x at = normal-take n ids (λ j. all (suc j)) i x at

pub cut-same : (ids : List Xid) (k count : ℕ) → k ≤ length ids → take k (numbers ids) ≡ take count (numbers ids) → count ≤ length (numbers ids) → k ≡ count
cut-same ids k count low e within =
    let long = length-map ids (λ (x : Xid). x.0) in
    let a = length-take-le k (numbers ids) (omega arith) in
    let b = length-take-le count (numbers ids) within in
    sym a ∙ ap length e ∙ b

-- what is cut back to the newest mark keeps all marks
pub marks-cut : (ids : List Xid) (ms : List ℕ) (count : ℕ) → AreMarks (length ids) ms → newest (prefixes (numbers ids) ms) ≡ take count (numbers ids)
    → count ≤ length (numbers ids) → AreMarks (length (take count ids)) ms
marks-cut ids [] count are e within = tt
marks-cut ids (k ∷ ms) count are e within = (let c = cut-same ids k count are.0 e within in let l = length-take-le count ids (let long = length-map ids (λ (x : Xid). x.0) in omega arith) in omega arith, are.1)

pub prefixes-cut : (ids : List Xid) (ms : List ℕ) (count : ℕ) → AreMarks (length ids) ms → newest (prefixes (numbers ids) ms) ≡ take count (numbers ids)
    → count ≤ length (numbers ids) → prefixes (numbers (take count ids)) ms ≡ prefixes (numbers ids) ms
prefixes-cut ids [] count are e within = refl
prefixes-cut ids (k ∷ ms) count are e within =
    let c = cut-same ids k count are.0 e within in
    let all : AreMarks k (k ∷ ms) = (omega arith, are.1) in
    ap (λ xs. prefixes xs (k ∷ ms)) (sym (take-map (λ (x : Xid). x.0) count ids)) ∙ prefixes-take (k ∷ ms) (numbers ids) k count all (omega arith)

-- without the newest mark
pub marks-popped : (old new : List ℕ) (r : Option ℕ) (n : ℕ) → old ≡ new ++ option_to_list r → AreMarks n (reverse old) → AreMarks n (reverse new)
marks-popped old new None n e are = let same : old ≡ new = e ∙ append-nil new in subst (λ ms. AreMarks n (reverse ms)) same are
marks-popped old new (Some m) n e are =
    let turned : reverse old ≡ m ∷ reverse new = ap reverse e ∙ reverse-append new (m ∷ []) in
    let both : AreMarks n (m ∷ reverse new) = subst (AreMarks n) turned are in
    marks-more (reverse new) m n both.1 both.0

-- an id that is nowhere in a list
pub nowhere : (ids : List Xid) (x : ℕ) → ((k : ℕ) → k < length ids → (get_or ids k (record { 0 = 0 })).0 ≡ x → ⊥) → Contains (numbers ids) x → ⊥
nowhere ids x none (k, h, e) =
    let long = length-map ids (λ (y : Xid). y.0) in
    let within : k < length ids = omega arith in
    none k within (sym (get_or-map (λ (y : Xid). y.0) ids k (record { 0 = 0 }) x within) ∙ e)

-- where a savepoint is, a mark is
pub marks-some : (ids marks : List ℕ) → prefixes ids (reverse marks) ≢ [] → 0 < length marks
marks-some ids [] some = absurd (some refl)
marks-some ids (mark ∷ marks) some = omega arith
