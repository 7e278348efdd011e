-- The places of a chain of which pruning speaks.
use Rattle.std.proofs.Common.{◌≡◌, ℕ, ◌-◌, ◌<◌, Bool, true, List, get_or, arith, ⊎_elim, sym, ap, ◌∙◌, subst}
use Rattle.std.specs.List.{Contains}
use Rattle.page_sheet.specs.declared.slot.Slot.{Slot}
use Rattle.commit_status.specs.Window.{Window}
use Rattle.hot_chain.specs.Chain.{has_aborted, is_root, IsChain}
use Rattle.prune.specs.Cutting.{IsCutCount, IsCut}
use Rattle.sound_page.specs.Links.{NoSharedSlots}
use Rattle.prune.specs.Pruning.{IsInChainOf, IsLoose}
use Rattle.sound_page.proofs.ChainPlaces.{root-leads, reaches-places}

-- where no slot is in two chains, a slot is of one root alone
pub of-one : (aborted : ℕ → Bool) (slots : List Slot) (a b n : ℕ) (c d : List ℕ) → NoSharedSlots aborted slots → IsInChainOf aborted slots a c n → IsInChainOf aborted slots b d n → a ≡ b
of-one aborted slots a b n c d apart x y = ⊎_elim
    (λ xa. ⊎_elim (λ yb. sym xa ∙ yb) (λ yd. itself a b c d x.starts y (subst (Contains d) xa yd)) y.holds)
    (λ xc. ⊎_elim (λ yb. sym (itself b a d c y.starts x (subst (Contains c) yb xc)))
    (λ yd. apart a b n (record { starts = x.starts; chain = c; is_chain = x.is_chain; holds = xc }) (record { starts = y.starts; chain = d; is_chain = y.is_chain; holds = yd })) y.holds)
    x.holds
  where
    itself : (a b : ℕ) (c d : List ℕ) → is_root slots a ≡ true → IsInChainOf aborted slots b d n → Contains d a → a ≡ b
    itself a b c d starts y holds = apart a b a (root-leads aborted slots b a d y.is_chain starts holds)
        (record { starts = y.starts; chain = d; is_chain = y.is_chain; holds = holds })

pub of-not_loose : (aborted : ℕ → Bool) (slots : List Slot) (root n : ℕ) (chain : List ℕ) → IsInChainOf aborted slots root chain n → ¬ IsLoose aborted slots n
of-not_loose aborted slots root n chain o l = ⊎_elim
    (λ same. let e = ap (is_root slots) same in let s = o.starts in let f = l.no_root in absurd (cc))
    (λ holds. l.unreached root (record { starts = o.starts; chain = chain; is_chain = o.is_chain; holds = holds })) o.holds

-- what is in the prefix of a chain that is cut is cut
pub prefix-cut : (w : Window) (horizon : ℕ) (slots : List Slot) (n : ℕ) (chain : List ℕ) (cut i : ℕ) → IsChain (has_aborted w) slots n chain
    → IsCutCount w horizon slots chain cut → i < cut → IsCut w horizon slots (get_or chain i 0)
prefix-cut w horizon slots n chain cut i c count h = record {
  last = get_or chain (cut - 1) 0;
  later = reaches-places w slots n chain i (cut - 1) c (omega arith) (let l = count.within in omega arith);
  dead = count.dead (omega arith);
}
