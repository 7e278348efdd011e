-- A plan is read just where it is spelled so.
use Rattle.std.proofs.Common.{◌≡◌, ℕ, ◌+◌, ◌-◌, ◌^◌, ◌<◌, List, [], ◌∷◌, ◌++◌, drop, get_or, map, refl, ap, ◌∙◌, arith, None, Some, Bool, true, false, cond, eqb, ◌⊎◌, inl, inr, codes}
use Rattle.std.specs.Option.{option_map}
use Rattle.std.specs.List.{flat_map, AllByRecursion}
use Rattle.std.specs.Fmt.{decimal}
use Rattle.std.proofs.lemmas.Option.{none-some, same_Some}
use Rattle.std.proofs.lemmas.Bool.Decides.{nat_tests}
use Rattle.std.proofs.lemmas.List.{append-nil}
use Rattle.prune_actions.specs.declared.Action.{Action}
use Rattle.prune_actions.specs.declared.Action.TheVariants.{Unuse, Kill, Redirect}
use Rattle.calls.specs.Words.{PlanToApply}
use Rattle.script_text.specs.Grammar.{ActionFits, PlanFits, action_text, actions_text, plan_words, spaced}
use Rattle.script_text.specs.Reading.{words_of, number_of, number_then, redirect_of, action_of, actions_of, plan_of, plan_words_of}
use Rattle.script_text.proofs.ByteLemmas.{Free, Free-append}
use Rattle.script_text.proofs.NumberLaws.{bound, mapped, cut_at_says, cut_at-free, number_of_says, number_of-decimal, number_then_says, number_then-decimal, decimal_free, decimal_free_past}
use Rattle.script_text.proofs.WordLemmas.{words_of-free, words_of-cons, words_of_says}

-- the first byte, and what stands behind it
pub front_is : (w : List ℕ) (x : ℕ) → eqb (get_or w 0 0) (x + 1) ≡ true → w ≡ (x + 1) ∷ drop 1 w
front_is [] x e = absurd (let h = e in grind (arith, nat_tests))
front_is (y ∷ ys) x e = let same : y ≡ x + 1 = grind (arith, nat_tests) in ap (λ v. v ∷ ys) same

pub chosen : {A : Type 0} (b : Bool) (x y z : A) → cond b x y ≡ z → ((b ≡ true) × (x ≡ z)) ⊎ ((b ≡ false) × (y ≡ z))
chosen true x y z h = inl (refl, h)
chosen false x y z h = inr (refl, h)

-- what is done to one slot that a number names
slot_says : (make : ℕ → ℕ × Action) (w : List ℕ) (a : ℕ × Action) → option_map make (number_of 65535 w) ≡ Some a → (n : ℕ) × (n < 2 ^ 16) × (w ≡ decimal n) × (make n ≡ a)
slot_says make w a h =
    let m = mapped (number_of 65535 w) make a h in
    let says = number_of_says 65535 w m.0 (omega arith) m.1 in
    (m.0, omega (arith, says.1), says.0, m.2)

redirect_of_says : (w : List ℕ) (a : ℕ × Action) → redirect_of w ≡ Some a
    → (n : ℕ) × (k : ℕ) × (n < 2 ^ 16) × (k < 2 ^ 16) × (w ≡ decimal n ++ 58 ∷ decimal k) × ((n, Redirect k) ≡ a)
unfolding redirect_of
redirect_of_says w a h =
    let slots = bound _ _ a h in
    let n = bound (number_of 65535 slots.0.0) _ a slots.2 in
    let k = bound (number_of 65535 slots.0.1) _ a n.2 in
    let n_is = number_of_says 65535 slots.0.0 n.0 (omega arith) n.1 in
    let k_is = number_of_says 65535 slots.0.1 k.0 (omega arith) k.1 in (
      n.0,
      k.0,
      omega (arith, n_is.1),
      omega (arith, k_is.1),
      cut_at_says 58 w slots.0.0 slots.0.1 slots.1 ∙ ap (λ x. x ++ 58 ∷ slots.0.1) n_is.0 ∙ ap (λ x. decimal n.0 ++ 58 ∷ x) k_is.0,
      same_Some _ a k.2,
    )

action_of_says : (w : List ℕ) (a : ℕ × Action) → action_of w ≡ Some a → ActionFits a × (w ≡ action_text a)
unfolding action_of
action_of_says w a h = elim (chosen (eqb (get_or w 0 0) 117) _ _ (Some a) h) [
  | inl u ↦
      let s = slot_says (λ n. (n, Unuse)) (drop 1 w) a u.1 in
      rw (← s.3) (s.1, front_is w 116 u.0 ∙ ap (λ r. 117 ∷ r) s.2)
  | inr not_u ↦ elim (chosen (eqb (get_or w 0 0) 100) _ _ (Some a) not_u.1) [
    | inl d ↦
        let s = slot_says (λ n. (n, Kill)) (drop 1 w) a d.1 in
        rw (← s.3) (s.1, front_is w 99 d.0 ∙ ap (λ r. 100 ∷ r) s.2)
    | inr not_d ↦ elim (chosen (eqb (get_or w 0 0) 114) _ None (Some a) not_d.1) [
      | inl r ↦
          let s = redirect_of_says (drop 1 w) a r.1 in
          rw (← s.5) ((s.2, s.3), front_is w 113 r.0 ∙ ap (λ x. 114 ∷ x) s.4)
      | inr none ↦ absurd (none-some a none.1)
    ]
  ]
]

redirect_of-text : (n k : ℕ) → n < 2 ^ 16 → k < 2 ^ 16 → redirect_of (decimal n ++ 58 ∷ decimal k) ≡ Some (n, Redirect k)
unfolding redirect_of
redirect_of-text n k hn hk = rw (
  cut_at-free 58 (decimal n) (decimal k) (decimal_free_past 58 n (omega arith) (omega arith)),
  number_of-decimal 65535 n (omega arith) (omega arith),
  number_of-decimal 65535 k (omega arith) (omega arith),
) refl

action_of-text : (a : ℕ × Action) → ActionFits a → action_of (action_text a) ≡ Some a
unfolding action_of
action_of-text (n, Unuse) h = rw (number_of-decimal 65535 n (omega arith) (omega arith)) refl
action_of-text (n, Kill) h = rw (number_of-decimal 65535 n (omega arith) (omega arith)) refl
action_of-text (n, Redirect k) h = redirect_of-text n k h.0 h.1

-- neither a space nor a line feed is in what is done to a slot
action_free : (x : ℕ) (a : ℕ × Action) → x < 48 → ActionFits a → Free x (action_text a)
action_free x (n, Unuse) low h = let far : eqb 117 x ≡ false = grind (arith, nat_tests) in (far, decimal_free x n low (omega arith))
action_free x (n, Kill) low h = let far : eqb 100 x ≡ false = grind (arith, nat_tests) in (far, decimal_free x n low (omega arith))
action_free x (n, Redirect k) low h =
    let far : eqb 114 x ≡ false = grind (arith, nat_tests) in
    let apart : eqb 58 x ≡ false = grind (arith, nat_tests) in
    (far, Free-append x (decimal n) (codes ":" ++ decimal k) (decimal_free x n low (omega (arith, h.0))) (apart, decimal_free x k low (omega (arith, h.1))))

actions_of_says : (words : List (List ℕ)) (actions : List (ℕ × Action)) → actions_of words ≡ Some actions → AllByRecursion ActionFits actions × (flat_map spaced words ≡ actions_text actions)
unfolding actions_of
actions_of_says [] actions h = rw (← same_Some [] actions h) (tt, refl)
actions_of_says (word ∷ words) actions h =
    let a = bound (action_of word) _ actions h in
    let more = bound (actions_of words) _ actions a.2 in
    let a_is = action_of_says word a.0 a.1 in
    let more_is = actions_of_says words more.0 more.1 in
    rw (← same_Some _ actions more.2) ((a_is.0, more_is.0), ap (λ w. spaced w ++ flat_map spaced words) a_is.1 ∙ ap (λ r. spaced (action_text a.0) ++ r) more_is.1)

actions_of-texts : (actions : List (ℕ × Action)) → AllByRecursion ActionFits actions → actions_of (map action_text actions) ≡ Some actions
unfolding actions_of
actions_of-texts [] h = refl
actions_of-texts (a ∷ actions) h = rw (action_of-text a h.0, actions_of-texts actions h.1) refl

-- the words of a text that ends with what is done to slots
words_of-actions : (w : List ℕ) (actions : List (ℕ × Action)) → Free 32 w → AllByRecursion ActionFits actions → words_of (w ++ actions_text actions) ≡ w ∷ map action_text actions
words_of-actions w [] free h = ap words_of (append-nil w) ∙ words_of-free w free
words_of-actions w (a ∷ actions) free h =
    words_of-cons w (action_text a ++ actions_text actions) free ∙ ap (λ r. w ∷ r) (words_of-actions (action_text a) actions (action_free 32 a (omega arith) h.0) h.1)

plan_of_says : (xs : List ℕ) (words : List (List ℕ)) (plan : PlanToApply) → words_of xs ≡ words → plan_of words ≡ Some plan
    → (plan.change < 2 ^ 64) × AllByRecursion ActionFits plan.actions × (xs ≡ decimal plan.change ++ actions_text plan.actions)
unfolding plan_of
plan_of_says xs [] plan e h = absurd (none-some plan h)
plan_of_says xs (word ∷ words) plan e h =
    let change = bound (number_of (2 ^ 64 - 1) word) _ plan h in
    let actions = bound (actions_of words) _ plan change.2 in
    let change_is = number_of_says (2 ^ 64 - 1) word change.0 (omega arith) change.1 in
    let actions_is = actions_of_says words actions.0 actions.1 in
    rw (← same_Some _ plan actions.2) (
      omega (arith, change_is.1),
      actions_is.0,
      words_of_says xs word words e ∙ ap (λ w. w ++ flat_map spaced words) change_is.0 ∙ ap (λ r. decimal change.0 ++ r) actions_is.1,
    )

pub plan_words_of_says : (xs : List ℕ) (p : ℕ × PlanToApply) → plan_words_of xs ≡ Some p → PlanFits p.0 p.1 × (xs ≡ plan_words p.0 p.1)
unfolding plan_words_of
plan_words_of_says xs p h =
    let page = bound (number_then 4294967295 xs) _ p h in
    let plan = bound (plan_of (words_of page.0.1)) _ p page.2 in
    let page_is = number_then_says 4294967295 xs page.0.0 page.0.1 (omega arith) page.1 in
    let plan_is = plan_of_says page.0.1 _ plan.0 refl plan.1 in
    rw (← same_Some _ p plan.2) ((omega (arith, page_is.1), plan_is.0, plan_is.1), page_is.0 ∙ ap (λ r. decimal page.0.0 ++ spaced r) plan_is.2)

plan_of-words : (plan : PlanToApply) → plan.change < 2 ^ 64 → AllByRecursion ActionFits plan.actions → plan_of (decimal plan.change ∷ map action_text plan.actions) ≡ Some plan
unfolding plan_of
plan_of-words plan small fits = rw (number_of-decimal (2 ^ 64 - 1) plan.change (omega arith) (omega arith), actions_of-texts plan.actions fits) refl

pub plan_words_of-words : (p : ℕ) (plan : PlanToApply) → PlanFits p plan → plan_words_of (plan_words p plan) ≡ Some (p, plan)
unfolding plan_words_of
plan_words_of-words p plan h = rw (
  number_then-decimal 4294967295 p (decimal plan.change ++ actions_text plan.actions) (omega (arith, h.0)) (omega arith),
  words_of-actions (decimal plan.change) plan.actions (decimal_free 32 plan.change (omega arith) (omega (arith, h.1))) h.2,
  plan_of-words plan h.1 h.2,
) refl

actions_free : (actions : List (ℕ × Action)) → AllByRecursion ActionFits actions → Free 10 (actions_text actions)
actions_free [] h = tt
actions_free (a ∷ actions) h = Free-append 10 (spaced (action_text a)) (actions_text actions) (refl, action_free 10 a (omega arith) h.0) (actions_free actions h.1)

pub plan_words_free : (p : ℕ) (plan : PlanToApply) → PlanFits p plan → Free 10 (spaced (plan_words p plan))
plan_words_free p plan h = (
  refl,
  Free-append 10 (decimal p) (spaced (decimal plan.change ++ actions_text plan.actions)) (decimal_free 10 p (omega arith) (omega (arith, h.0)))
      (refl, Free-append 10 (decimal plan.change) (actions_text plan.actions) (decimal_free 10 plan.change (omega arith) (omega (arith, h.1))) (actions_free plan.actions h.2)),
)
