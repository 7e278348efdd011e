-- A slot has one chain.
use Rattle.std.proofs.Common.{◌≡◌, ℕ, zero, suc, ◌+◌, ◌-◌, ◌<◌, ◌≤◌, ◌↔◌, Bool, true, false, nat_eq, List, [], ◌∷◌, length, get_or, Some, None, slice_get, arith, ⊎_elim, refl, sym, ap, ◌∙◌, subst}
use Rattle.std.proofs.lemmas.Bool.{cases_lt, eqb-true, eq-eqb}
use Rattle.std.proofs.lemmas.List.{ext_get_or, get_or_default}
use Rattle.std.proofs.lemmas.Map.Keys.{apart_from_distinct}
use Rattle.std.proofs.lemmas.Option.{slice_get-get_or, slice_get_past}
use Rattle.std.specs.List.{IsDistinct, list_any, Contains}
use Rattle.page_sheet.specs.declared.slot.Slot.{Slot}
use Rattle.hot_chain.specs.Chain.{next_in_chain, IsEnd, IsChain, is_root, is_root_in, LeadsTo}

pub by-test : {P : Type 0} (b : Bool) → (b ≡ true → P) → (b ≡ false → P) → P
by-test true f g = f refl
by-test false f g = g refl

any-rest : (q x : ℕ) (xs : List ℕ) → nat_eq q x ≡ false → list_any (nat_eq q) (x ∷ xs) ≡ list_any (nat_eq q) xs
any-rest q x xs f = rw f refl

any-here : (q x : ℕ) (xs : List ℕ) → nat_eq q x ≡ true → list_any (nat_eq q) (x ∷ xs) ≡ true
any-here q x xs f = rw f refl

-- where a list holds a number
pub any-place : (q : ℕ) (xs : List ℕ) → list_any (nat_eq q) xs ≡ true → (j : ℕ) × (j < length xs) × (get_or xs j 0 ≡ q)
any-place q [] e = absurd (cc)
any-place q (x ∷ xs) e =
    by-test (nat_eq q x) (λ f. (zero, (omega arith), sym (eqb-true q x f)))
    (λ f. let found = any-place q xs (sym (any-rest q x xs f) ∙ e) in (suc found.0, (let l = found.1 in omega arith), found.2))

pub place-any : (q : ℕ) (xs : List ℕ) (j : ℕ) → j < length xs → get_or xs j 0 ≡ q → list_any (nat_eq q) xs ≡ true
place-any q [] j h e = absurd (omega arith)
place-any q (x ∷ xs) zero h e = any-here q x xs (eq-eqb q x (sym e))
place-any q (x ∷ xs) (suc j) h e =
    by-test (nat_eq q x) (λ f. any-here q x xs f) (λ f. any-rest q x xs f ∙ place-any q xs j (omega arith) e)

pub contains-any : (q : ℕ) (xs : List ℕ) → Contains xs q → list_any (nat_eq q) xs ≡ true
contains-any q xs (k, h, e) = place-any q xs k h (get_or_default xs k 0 q h ∙ e)

pub any-contains : (q : ℕ) (xs : List ℕ) → list_any (nat_eq q) xs ≡ true → Contains xs q
any-contains q xs e = let found = any-place q xs e in (found.0, found.1, get_or_default xs found.0 q 0 found.1 ∙ found.2)

-- in a list without repetition two places hold two numbers
pub distinct-places : (xs : List ℕ) (i j : ℕ) → IsDistinct nat_eq xs → i < j → j < length xs → get_or xs i 0 ≡ get_or xs j 0 → ⊥
distinct-places xs i j d lt within e =
    let apart = apart_from_distinct nat_eq xs i j 0 d lt within in
    let same = eq-eqb (get_or xs i 0) (get_or xs j 0) e in
    absurd (cc)

chains-agree : (aborted : ℕ → Bool) (slots : List Slot) (n : ℕ) (c d : List ℕ) → IsChain aborted slots n c → IsChain aborted slots n d
    → (k : ℕ) → k < length c → k < length d → get_or c k 0 ≡ get_or d k 0
chains-agree aborted slots n c d ic id zero hc hd =
    let a = slice_get-get_or c 0 0 hc in
    let b = slice_get-get_or d 0 0 hd in
    let s : Some (get_or c 0 0) ≡ Some (get_or d 0 0) = sym a ∙ ic.start ∙ sym id.start ∙ b in
    cc
chains-agree aborted slots n c d ic id (suc k) hc hd =
    let before = chains-agree aborted slots n c d ic id k (omega arith) (omega arith) in
    let next : k + 1 ≡ suc k = omega arith in
    let a = ic.linked k (omega arith) in
    let b = id.linked k (omega arith) in
    let s : Some (get_or c (k + 1) 0) ≡ Some (get_or d (k + 1) 0) = sym a ∙ ap (next_in_chain aborted slots) before ∙ b in
    let t : get_or c (k + 1) 0 ≡ get_or d (k + 1) 0 = cc in
    ap (λ i. get_or c i 0) (sym next) ∙ t ∙ ap (λ i. get_or d i 0) next

not-longer : (aborted : ℕ → Bool) (slots : List Slot) (n : ℕ) (c d : List ℕ) → IsChain aborted slots n c → IsChain aborted slots n d → length c < length d → ⊥
not-longer aborted slots n c d ic id longer = ⊎_elim at-start goes-on (cases_lt 0 (length c))
  where
    goes-on : length c ≤ 0 → ⊥
    goes-on none =
        let a = slice_get_past c 0 none in
        let b = slice_get-get_or d 0 0 (omega arith) in
        let s : None ≡ Some (get_or d 0 0) = sym a ∙ ic.start ∙ sym id.start ∙ b in
        absurd (cc)

    at-start : 0 < length c → ⊥
    at-start some =
        let last = length c - 1 in
        let same = chains-agree aborted slots n c d ic id last (omega arith) (omega arith) in
        let link = ap (next_in_chain aborted slots) same ∙ id.linked last (omega arith) in
        let ends : list_any (nat_eq (get_or d (last + 1) 0)) c ≡ true = subst (IsEnd c) link (ic.end some) in
        let found = any-place (get_or d (last + 1) 0) c ends in
        let within = found.1 in
        let repeat = chains-agree aborted slots n c d ic id found.0 within (omega arith) in
        distinct-places d found.0 (last + 1) id.distinct (omega arith) (omega arith) (sym repeat ∙ found.2)

pub chain-one : (aborted : ℕ → Bool) (slots : List Slot) (n : ℕ) (c d : List ℕ) → IsChain aborted slots n c → IsChain aborted slots n d → c ≡ d
chain-one aborted slots n c d ic id =
    let le = ⊎_elim (λ lt. absurd (not-longer aborted slots n c d ic id lt)) (λ ge. ge) (cases_lt (length c) (length d)) in
    let ge = ⊎_elim (λ lt. absurd (not-longer aborted slots n d c id ic lt)) (λ ge. ge) (cases_lt (length d) (length c)) in
    let same : length c ≡ length d = omega arith in
    ext_get_or 0 c d same (λ k h. chains-agree aborted slots n c d ic id k h (omega arith))

-- a root is there
pub root-there : (slots : List Slot) (n : ℕ) → is_root slots n ≡ true → (1 ≤ n) × (n ≤ length slots)
root-there slots zero e = absurd (cc)
root-there slots (suc i) e = ⊎_elim
    (λ lt. (omega arith, omega arith))
    (λ ge. absurd (let none = slice_get_past slots i ge in let f : is_root_in (slice_get slots i) ≡ false = ap is_root_in none in cc)) (cases_lt i (length slots))

-- whether the chain holds the slot
pub leads-by : (aborted : ℕ → Bool) (slots : List Slot) (root slot : ℕ) (chain : List ℕ) (b : Bool) → is_root slots root ≡ true → IsChain aborted slots root chain
    → list_any (nat_eq slot) chain ≡ b → (b ≡ true) ↔ LeadsTo aborted slots root slot
leads-by aborted slots root slot chain b starts is e = (
  λ t. record { starts = starts; chain = chain; is_chain = is; holds = any-contains slot chain (e ∙ t) },
  λ l. sym e ∙ contains-any slot chain (subst (λ c. Contains c slot) (chain-one aborted slots root l.chain chain l.is_chain is) l.holds),
)
