-- Where no slot is in the chains of two roots, pruning has one outcome.
use Rattle.std.proofs.Common.{◌≡◌, ℕ, suc, ◌-◌, ◌<◌, List, [], ◌∷◌, length, Option, arith, ⊎_elim, sym, ap, ap₂, ◌∙◌, refl, subst, slice_get}
use Rattle.std.proofs.lemmas.Bool.{cases_lt}
use Rattle.std.proofs.lemmas.Option.{slice_get_past, same_Some}
use Rattle.page_sheet.specs.declared.slot.Slot.{Slot}
use Rattle.page_sheet.specs.Slots.{slot_at, SlotIsThere}
use Rattle.commit_status.specs.Window.{Window}
use Rattle.hot_chain.specs.Chain.{has_aborted, IsChain}
use Rattle.hot_chain.proofs.Chains.{chain-one}
use Rattle.prune_actions.specs.declared.Action.{Action}
use Rattle.prune.specs.Cutting.{IsCutCount}
use Rattle.sound_page.specs.Links.{NoSharedSlots}
use Rattle.prune.specs.Actions.{acted}
use Rattle.prune.specs.Pruning.{chain_action, IsInChainOf, PrunesSlot, by_root, by_none, IsPruned}
use Rattle.prune.proofs.CutPlaces.{of-one, of-not_loose}

not-more : (w : Window) (horizon : ℕ) (slots : List Slot) (chain : List ℕ) (a b : ℕ) → IsCutCount w horizon slots chain a → IsCutCount w horizon slots chain b → ¬ (a < b)
not-more w horizon slots chain a b x y h = x.none_after (b - 1) (omega arith) (let l = y.within in omega arith) (y.dead (omega arith))

-- a chain has one last dead version
pub count-one : (w : Window) (horizon : ℕ) (slots : List Slot) (chain : List ℕ) (a b : ℕ) → IsCutCount w horizon slots chain a → IsCutCount w horizon slots chain b → a ≡ b
count-one w horizon slots chain a b x y = ⊎_elim (λ lt. absurd (not-more w horizon slots chain a b x y lt))
    (λ ge. ⊎_elim (λ gt. absurd (not-more w horizon slots chain b a y x gt)) (λ le. omega arith) (cases_lt b a)) (cases_lt a b)

-- a root of the slot, its chain and what is cut of it say what becomes of it
pub does-by : (w : Window) (horizon : ℕ) (slots : List Slot) (n root cut : ℕ) (chain : List ℕ) (o : Option Action) → NoSharedSlots (has_aborted w) slots
    → IsInChainOf (has_aborted w) slots root chain n → IsCutCount w horizon slots chain cut → PrunesSlot w horizon slots n o → o ≡ chain_action root chain cut n
does-by w horizon slots n root cut chain o apart i c (by_root other others_chain others_cut j d e) =
    let one : other ≡ root = of-one (has_aborted w) slots other root n others_chain chain apart j i in
    let chains : others_chain ≡ chain = chain-one (has_aborted w) slots root others_chain chain (subst (λ r. IsChain (has_aborted w) slots r others_chain) one j.is_chain) i.is_chain in
    let cuts : others_cut ≡ cut = count-one w horizon slots chain others_cut cut (subst (λ l. IsCutCount w horizon slots l others_cut) chains d) c in
    e ∙ ap (λ r. chain_action r others_chain others_cut n) one ∙ ap (λ l. chain_action root l others_cut n) chains ∙ ap (λ k. chain_action root chain k n) cuts
does-by w horizon slots n root cut chain o apart i c (by_none l e) = absurd (of-not_loose (has_aborted w) slots root n chain i l)

pub does-one : (w : Window) (horizon : ℕ) (slots : List Slot) (n : ℕ) (a b : Option Action) → NoSharedSlots (has_aborted w) slots
    → PrunesSlot w horizon slots n a → PrunesSlot w horizon slots n b → a ≡ b
does-one w horizon slots n a b apart (by_root root chain cut i c e) y = e ∙ sym (does-by w horizon slots n root cut chain b apart i c y)
does-one w horizon slots n a b apart (by_none l e) (by_root root chain cut i c f) = absurd (of-not_loose (has_aborted w) slots root n chain i l)
does-one w horizon slots n a b apart (by_none l e) (by_none k f) = e ∙ sym f

pub same-slots : (a b : List Slot) → ((i : ℕ) → slice_get a i ≡ slice_get b i) → a ≡ b
same-slots [] [] e = refl
same-slots [] (y ∷ ys) e = absurd (let h = e 0 in cc h)
same-slots (x ∷ xs) [] e = absurd (let h = e 0 in cc h)
same-slots (x ∷ xs) (y ∷ ys) e = ap₂ (λ (z : Slot) (zs : List Slot). z ∷ zs) (same_Some x y (e 0)) (same-slots xs ys (λ i. e (suc i)))

-- slots that are the same as far as there are any
pub same-by_slots : (slots a b : List Slot) → length a ≡ length slots → length b ≡ length slots → ((n : ℕ) → SlotIsThere slots n → slot_at a n ≡ slot_at b n) → a ≡ b
same-by_slots slots a b long longs e = same-slots a b (λ i. ⊎_elim
    (λ lt. e (suc i) ((omega arith), (omega arith)))
    (λ ge. slice_get_past a i (omega arith) ∙ sym (slice_get_past b i (omega arith)))
    (cases_lt i (length slots)))

pub pruned-one : (w : Window) (horizon : ℕ) (slots a b : List Slot) → NoSharedSlots (has_aborted w) slots → IsPruned w horizon slots a → IsPruned w horizon slots b → a ≡ b
pruned-one w horizon slots a b apart p q = same-by_slots slots a b p.count q.count (λ n there.
    let x = p.each n there in
    let y = q.each n there in
    x.is ∙ ap (acted (slot_at slots n)) (does-one w horizon slots n x.answer y.answer apart x.does y.does) ∙ sym y.is)
