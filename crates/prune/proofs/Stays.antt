-- Slots that plainly stay as they are.
use Rattle.std.proofs.Common.{◌≡◌, ℕ, zero, suc, ◌+◌, ◌-◌, ◌==◌, true, nat_eq, if◌then◌else◌, List, [], ◌∷◌, length, get_or, take, Some, None, arith, ⊎_elim, sym, ap, ◌∙◌, refl, subst, slice_get}
use Rattle.std.specs.List.{list_any}
use Rattle.std.specs.Option.{option_map, option_and_then}
use Rattle.std.proofs.lemmas.Bool.{cases_lt, cases_Bool, eqb-true, cond-true, cond-false}
use Rattle.page_sheet.specs.declared.slot.Slot.{Slot}
use Rattle.page_sheet.specs.Slots.{version_at, header_at}
use Rattle.tuple_header.specs.Version.{Version}
use Rattle.commit_status.specs.Window.{Window}
use Rattle.hot_chain.specs.Chain.{has_aborted, first_of, next_in_chain, successor, IsChain}
use Rattle.hot_chain.proofs.Chains.{chain-one}
use Rattle.prune_actions.specs.declared.Action.TheVariants as action
use Rattle.sound_page.specs.Dead.{IsDeadAt, HasDead}
use Rattle.sound_page.proofs.Links.{member-version, version-there}
use Rattle.sound_page.proofs.ChainPlaces.{first-normal, place-in_front}
use Rattle.prune.specs.Cutting.{IsCutCount}
use Rattle.prune.specs.Pruning.{chain_action, root_action, IsInChainOf}
use Rattle.prune.specs.Marks.{NoneDead, PlainlyStays, ListsAllBut}
use Rattle.prune.proofs.Cuts.{dead-here}
use Rattle.hot_chain.proofs.Alone.{single-chain, leads-nowhere}

version-header : (slots : List Slot) (n : ℕ) (t : Version) → version_at slots n ≡ Some t → header_at slots n ≡ Some t.header
version-header slots n t at = ap (option_map (λ (v : Version). v.header)) at

-- it holds no dead version
pub stays-alive : (w : Window) (horizon : ℕ) (slots : List Slot) (n : ℕ) → PlainlyStays w horizon slots n → ¬ IsDeadAt w horizon slots n
stays-alive w horizon slots n stays dead =
    (stays n dead.version.header (first-normal slots n dead.version dead.there) (version-header slots n dead.version dead.there)).1 dead.dead

-- nor does its chain, if it has one
pub stays-none_dead : (w : Window) (horizon : ℕ) (slots : List Slot) (n : ℕ) (chain : List ℕ) → PlainlyStays w horizon slots n → IsChain (has_aborted w) slots n chain
    → NoneDead w horizon slots chain
stays-none_dead w horizon slots n [] stays c = λ j within. absurd (omega arith)
stays-none_dead w horizon slots n (x ∷ rest) stays c = λ j within dead.
    let first : first_of slots n ≡ Some x = sym c.start in
    let v = member-version (has_aborted w) slots n (x ∷ rest) 0 c (omega arith) in
    let at = version-header slots x v.version v.there in
    let q = stays x v.version.header first at in
    let one : x ∷ rest ≡ x ∷ [] = chain-one (has_aborted w) slots n (x ∷ rest) (x ∷ []) c (single-chain (has_aborted w) slots n x v.version.header first at q.0) in
    let long : length (x ∷ rest) ≡ 1 = ap length one in
    let zero_is : j ≡ 0 = omega arith in
    let here : IsDeadAt w horizon slots x = subst (λ i. IsDeadAt w horizon slots (get_or (x ∷ rest) i 0)) zero_is dead in
    q.1 (dead-here w horizon slots x v.version.header at here)

-- it is the last of a chain that holds it, and nothing is done to it
stays-kept : (w : Window) (horizon : ℕ) (slots : List Slot) (n root cut : ℕ) (chain : List ℕ) → PlainlyStays w horizon slots n → IsChain (has_aborted w) slots root chain
    → IsCutCount w horizon slots chain cut → list_any (nat_eq n) (take cut chain) ≡ true → ⊥
stays-kept w horizon slots n root cut chain stays c o prefix =
    let p = place-in_front n cut chain o.within prefix in
    let before = p.1 in
    let within = o.within in
    ⊎_elim
    (λ more.
    let v = member-version (has_aborted w) slots root chain p.0 c (omega arith) in
    let there : version_at slots n ≡ Some v.version = ap (version_at slots) (sym p.2) ∙ v.there in
    let at = version-header slots n v.version there in
    let off = (stays n v.version.header (first-normal slots n v.version there) at).0 in
    let none : next_in_chain (has_aborted w) slots n ≡ None = ap (option_and_then (successor (has_aborted w) slots)) at ∙ leads-nowhere (has_aborted w) slots v.version.header off in
    let some = c.linked p.0 (omega arith) in
    absurd (let e : None ≡ Some (get_or chain (p.0 + 1) 0) = sym none ∙ ap (next_in_chain (has_aborted w) slots) (sym p.2) ∙ some in cc))
    (λ last.
    let same : cut - 1 ≡ p.0 = omega arith in
    stays-alive w horizon slots n stays (subst (IsDeadAt w horizon slots) (ap (λ i. get_or chain i 0) same ∙ p.2) (o.dead (omega arith))))
    (cases_lt (p.0 + 1) cut)

none-cut_zero : (w : Window) (horizon : ℕ) (slots : List Slot) (chain : List ℕ) (cut : ℕ) → NoneDead w horizon slots chain → IsCutCount w horizon slots chain cut → cut ≡ 0
none-cut_zero w horizon slots chain zero none o = refl
none-cut_zero w horizon slots chain (suc cut) none o = let within = o.within in absurd (none (suc cut - 1) (omega arith) (o.dead (omega arith)))

pub stays-chain_none : (w : Window) (horizon : ℕ) (slots : List Slot) (n root cut : ℕ) (chain : List ℕ) → PlainlyStays w horizon slots n → IsInChainOf (has_aborted w) slots root chain n
    → IsCutCount w horizon slots chain cut → chain_action root chain cut n ≡ None
stays-chain_none w horizon slots n root cut chain stays i o = ⊎_elim
    (λ here.
    let same = eqb-true n root here in
    let none = stays-none_dead w horizon slots root chain (subst (PlainlyStays w horizon slots) same stays) i.is_chain in
    cond-true (n == root) (root_action cut (slice_get chain cut)) _ here ∙ ap (λ k. root_action k (slice_get chain cut)) (none-cut_zero w horizon slots chain cut none o))
    (λ off. cond-false (n == root) (root_action cut (slice_get chain cut)) (if list_any (nat_eq n) (take cut chain) then Some action.Unuse else None) off ∙ ⊎_elim
    (λ prefix. absurd (stays-kept w horizon slots n root cut chain stays i.is_chain o prefix))
    (λ rest. cond-false (list_any (nat_eq n) (take cut chain)) (Some action.Unuse) None rest)
    (cases_Bool (list_any (nat_eq n) (take cut chain))))
    (cases_Bool (n == root))

-- where all plainly stay, no version is dead
pub stays-none : (w : Window) (horizon : ℕ) (slots : List Slot) (doubtful : List ℕ) → length doubtful == 0 ≡ true → ListsAllBut (PlainlyStays w horizon slots) 0 doubtful (length slots + 1)
    → HasDead w horizon slots → ⊥
stays-none w horizon slots [] e l dead =
    let there = version-there slots dead.number dead.dead.version dead.dead.there in
    let within = there.1 in
    stays-alive w horizon slots dead.number (l dead.number there.0 (omega arith)) dead.dead
stays-none w horizon slots (x ∷ rest) e l dead = let some : suc (length rest) ≡ 0 = eqb-true (suc (length rest)) 0 e in absurd (omega arith)
