-- Chains whose versions are plain but for the first: each has two slots at most.
use Rattle.std.proofs.Common.{◌≡◌, ◌≢◌, ℕ, ◌+◌, ◌==◌, Bool, true, false, nat_eq, if◌then◌else◌, List, [], ◌∷◌, Option, Some, None, arith, ⊎_elim, sym, ap, ◌∙◌, refl, subst, slice_get, slice_index}
use Rattle.std.specs.List.{IsDistinct}
use Rattle.std.specs.Option.{option_and_then}
use Rattle.std.proofs.lemmas.Bool.{cases_eq, eq-eqb, ne_eqb, cond-true, cond-false}
use Rattle.page_sheet.specs.declared.slot.Slot.{Slot}
use Rattle.page_sheet.specs.Slots.{header_at}
use Rattle.tuple_header.specs.declared.version.Header.{Header}
use Rattle.commit_status.specs.Window.{Window}
use Rattle.hot_chain.specs.Chain.{has_aborted, successor, next_in_chain, first_of, IsChain, IsEnd}
use Rattle.hot_chain.proofs.Alone.{leads-nowhere, distinct-alone}
use Rattle.prune.specs.Glances.{IsPlainAt}
use Rattle.prune.specs.OneDoubt.{second_of}
use Rattle.prune.proofs.Passed.{kept-unreplaced}

-- nothing comes after a plain version

after-header : (w : Window) (slots : List Slot) (n : ℕ) (o : Option Header) → header_at slots n ≡ o → ((h : Header) → o ≡ Some h → h.xmax.0 ≡ 0)
    → option_and_then (successor (has_aborted w) slots) o ≡ None
after-header w slots n None at plain = refl
after-header w slots n (Some h) at plain = leads-nowhere (has_aborted w) slots h (kept-unreplaced w h (plain h refl))

plain-last : (w : Window) (slots : List Slot) (n : ℕ) → IsPlainAt w slots n → next_in_chain (has_aborted w) slots n ≡ None
plain-last w slots n plain = after-header w slots n (header_at slots n) refl (λ h at. (plain h at).0)

-- chains of one slot and of two

distinct-two : (n k : ℕ) → nat_eq n k ≡ false → IsDistinct nat_eq (n ∷ k ∷ [])
unfolding IsDistinct
distinct-two n k off = ((off, tt), (tt, tt))

chain-of_one : (aborted : ℕ → Bool) (slots : List Slot) (root n : ℕ) → first_of slots root ≡ Some n → IsEnd (n ∷ []) (next_in_chain aborted slots n)
    → IsChain aborted slots root (n ∷ [])
chain-of_one aborted slots root n first ends = record {
  start = sym first;
  linked = λ i more. absurd (omega arith);
  distinct = distinct-alone n;
  end = λ some. ends;
}

chain-of_two : (aborted : ℕ → Bool) (slots : List Slot) (root n k : ℕ) → first_of slots root ≡ Some n → next_in_chain aborted slots n ≡ Some k → k ≢ n
    → next_in_chain aborted slots k ≡ None → IsChain aborted slots root (n ∷ k ∷ [])
chain-of_two aborted slots root n k first next other last = record {
  start = sym first;
  linked = λ i more. let here : i ≡ 0 = omega arith in
      subst (λ (j : ℕ). next_in_chain aborted slots (slice_index (n ∷ k ∷ []) j) ≡ Some (slice_index (n ∷ k ∷ []) (j + 1))) (sym here) next;
  distinct = distinct-two n k (ne_eqb n k (λ e. other (sym e)));
  end = λ some. subst (IsEnd (n ∷ k ∷ [])) (sym last) tt;
}

-- the chain of a root that begins in a slot, where the versions in all others are plain
pub chain-by_second : (w : Window) (slots : List Slot) (root n : ℕ) (next : Option ℕ) → first_of slots root ≡ Some n → next_in_chain (has_aborted w) slots n ≡ next
    → ((k : ℕ) → k ≢ n → IsPlainAt w slots k) → (chain : List ℕ) × IsChain (has_aborted w) slots root chain × (slice_get chain 1 ≡ second_of n next)
chain-by_second w slots root n None first next plain =
    (n ∷ [], chain-of_one (has_aborted w) slots root n first (subst (IsEnd (n ∷ [])) (sym next) tt), refl)
chain-by_second w slots root n (Some k) first next plain = ⊎_elim
    (λ same. (
      n ∷ [],
      chain-of_one (has_aborted w) slots root n first (subst (IsEnd (n ∷ [])) (sym (next ∙ ap Some same)) (itself n)),
      sym (cond-true (k == n) None (Some k) (eq-eqb k n same)),
    ))
    (λ other. (
      n ∷ k ∷ [],
      chain-of_two (has_aborted w) slots root n k first next other (plain-last w slots k (plain k other)),
      sym (cond-false (k == n) None (Some k) (ne_eqb k n other)),
    ))
    (cases_eq k n)
  where
    itself : (n : ℕ) → IsEnd (n ∷ []) (Some n)
    itself n = rw (eq-eqb n n refl) refl
