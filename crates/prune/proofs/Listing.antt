-- A plan's actions, pushed in order of slots.
use Rattle.std.proofs.Common.{◌≡◌, ◌≢◌, ℕ, ◌+◌, ◌<◌, ◌≤◌, ◌==◌, if◌then◌else◌, List, [], ◌∷◌, ◌++◌, length, get_or, drop, Option, Some, None, arith, ⊎_elim, sym, ap, ◌∙◌, refl, subst, add-one, drop-cons}
use Rattle.std.proofs.lemmas.Bool.{cases_lt, cases_Bool, eqb-true, eq-eqb, ne_eqb, cond-true, cond-false}
use Rattle.page_slots.specs.View.{PageView}
use Rattle.page_sheet.specs.Slots.{slot_at}
use Rattle.page_sheet.proofs.SlotLemmas.{length-with_slot, slot_at-with_slot, slot_at-with_slot_other}
use Rattle.prune_actions.specs.declared.Action.{Action}
use Rattle.prune.specs.Actions.{made_by, acted, after_action, applied, HasTarget, CanDo, CanApply, AreInOrder, action_of}

abbrev pub AreBelow : ℕ → List (ℕ × Action) → Type 0
AreBelow bound [] = Unit {0}
AreBelow bound (a ∷ rest) = (a.0 < bound) × AreBelow bound rest

-- the actions of the slots below a bound
pub record AreListed (count : ℕ) (answer : ℕ → Option Action) (acts : List (ℕ × Action)) (bound : ℕ) : Type 0 where
  pub can : CanApply count acts
  pub in_order : AreInOrder count 0 acts
  pub below : AreBelow bound acts
  pub each : (n : ℕ) → 1 ≤ n → n < bound → action_of acts n ≡ answer n

can-push : (count : ℕ) (acts : List (ℕ × Action)) (n : ℕ) (a : Action) → CanApply count acts → CanDo count n a → CanApply count (acts ++ (n, a) ∷ [])
can-push count [] n a can new = (new, tt)
can-push count (b ∷ rest) n a can new = (can.0, can-push count rest n a can.1 new)

order-push : (count low : ℕ) (acts : List (ℕ × Action)) (n : ℕ) (a : Action) → AreInOrder count low acts → low < n → AreBelow n acts → n ≤ count
    → AreInOrder count low (acts ++ (n, a) ∷ [])
order-push count low [] n a o h b w = (h, w, tt)
order-push count low (x ∷ rest) n a o h b w = (o.0, o.1, order-push count x.0 rest n a o.2 b.0 b.1 w)

below-push : (bound : ℕ) (acts : List (ℕ × Action)) (n : ℕ) (a : Action) → AreBelow bound acts → bound ≤ n → AreBelow (n + 1) (acts ++ (n, a) ∷ [])
below-push bound [] n a b h = ((omega arith), tt)
below-push bound (x ∷ rest) n a b h = ((let l = b.0 in omega arith), below-push bound rest n a b.1 h)

below-more : (bound more : ℕ) (acts : List (ℕ × Action)) → AreBelow bound acts → bound ≤ more → AreBelow more acts
below-more bound more [] b h = tt
below-more bound more (x ∷ rest) b h = ((let l = b.0 in omega arith), below-more bound more rest b.1 h)

below-none : (bound n : ℕ) (acts : List (ℕ × Action)) → AreBelow bound acts → bound ≤ n → action_of acts n ≡ None
below-none bound n [] b h = refl
below-none bound n (x ∷ rest) b h =
    cond-false (x.0 == n) (Some x.1) (action_of rest n) (ne_eqb x.0 n (λ e. let l = b.0 in omega arith)) ∙ below-none bound n rest b.1 h

push-other : (acts : List (ℕ × Action)) (n k : ℕ) (a : Action) → k ≢ n → action_of (acts ++ (n, a) ∷ []) k ≡ action_of acts k
push-other [] n k a ne = cond-false (n == k) (Some a) None (ne_eqb n k (λ e. ne (sym e)))
push-other (x ∷ rest) n k a ne = ap (λ o. if x.0 == k then Some x.1 else o) (push-other rest n k a ne)

push-same : (bound : ℕ) (acts : List (ℕ × Action)) (n : ℕ) (a : Action) → AreBelow bound acts → bound ≤ n → action_of (acts ++ (n, a) ∷ []) n ≡ Some a
push-same bound [] n a b h = cond-true (n == n) (Some a) None (eq-eqb n n refl)
push-same bound (x ∷ rest) n a b h =
    cond-false (x.0 == n) (Some x.1) (action_of (rest ++ (n, a) ∷ []) n) (ne_eqb x.0 n (λ e. let l = b.0 in omega arith)) ∙ push-same bound rest n a b.1 h

pub listed-skip : (count : ℕ) (answer : ℕ → Option Action) (acts : List (ℕ × Action)) (bound : ℕ) → AreListed count answer acts bound
    → None ≡ answer bound → AreListed count answer acts (bound + 1)
listed-skip count answer acts bound l e = record {
  can = l.can;
  in_order = l.in_order;
  below = below-more bound (bound + 1) acts l.below (omega arith);
  each = λ n a b. ⊎_elim (λ lt. l.each n a lt)
      (λ ge. let at : n ≡ bound = omega arith in below-none bound n acts l.below ge ∙ e ∙ ap answer (sym at)) (cases_lt n bound);
}

-- none of the slots in between has an action
pub listed-jump : (count : ℕ) (answer : ℕ → Option Action) (acts : List (ℕ × Action)) (bound more : ℕ) → AreListed count answer acts bound → bound ≤ more
    → ((n : ℕ) → bound ≤ n → n < more → answer n ≡ None) → AreListed count answer acts more
listed-jump count answer acts bound more l le none = record {
  can = l.can;
  in_order = l.in_order;
  below = below-more bound more acts l.below le;
  each = λ n from lt. ⊎_elim (λ below. l.each n from below)
      (λ ge. below-none bound n acts l.below ge ∙ sym (none n ge lt)) (cases_lt n bound);
}

pub listed-push : (count : ℕ) (answer : ℕ → Option Action) (acts : List (ℕ × Action)) (bound : ℕ) (a : Action) → AreListed count answer acts bound
    → 1 ≤ bound → bound ≤ count → HasTarget count a → Some a ≡ answer bound → AreListed count answer (acts ++ (bound, a) ∷ []) (bound + 1)
listed-push count answer acts bound a l from within target e = record {
  can = can-push count acts bound a l.can (record { there = from; within = within; target = target });
  in_order = order-push count 0 acts bound a l.in_order (omega arith) l.below within;
  below = below-push bound acts bound a l.below (omega arith);
  each = λ n x b. ⊎_elim (λ lt. push-other acts bound n a (λ e. omega arith) ∙ l.each n x lt)
      (λ ge. let at : n ≡ bound = omega arith in ap (action_of (acts ++ (bound, a) ∷ [])) at ∙ push-same bound acts bound a l.below (omega arith) ∙ e ∙ ap answer (sym at)) (cases_lt n bound);
}

order-length : (count low : ℕ) (acts : List (ℕ × Action)) → AreInOrder count low acts → low ≤ count → low + length acts ≤ count
order-length count low [] o h = omega (arith)
order-length count low (x ∷ rest) o h =
    let above = o.0 in
    let more : x.0 + length rest ≤ count = order-length count x.0 rest o.2 o.1 in
    omega (arith)

-- a page of so many slots has no more actions
pub listed-length : (count : ℕ) (answer : ℕ → Option Action) (acts : List (ℕ × Action)) (bound : ℕ) → AreListed count answer acts bound → length acts ≤ count
listed-length count answer acts bound l = let all = order-length count 0 acts l.in_order (omega arith) in omega (arith, all)

-- What a plan does to each slot.

pub order-none : (count low n : ℕ) (acts : List (ℕ × Action)) → AreInOrder count low acts → n ≤ low → action_of acts n ≡ None
order-none count low n [] o h = refl
order-none count low n (x ∷ rest) o h =
    let lt = o.0 in
    cond-false (x.0 == n) (Some x.1) (action_of rest n) (ne_eqb x.0 n (λ e. omega arith)) ∙ order-none count x.0 n rest o.2 (omega arith)

-- only slots that are there are named
pub named-there : (count low n : ℕ) (acts : List (ℕ × Action)) (a : Action) → AreInOrder count low acts → action_of acts n ≡ Some a → (low < n) × (n ≤ count)
named-there count low n [] a o e = absurd (cc)
named-there count low n (x ∷ rest) a o e =
    let lt = o.0 in
    let le = o.1 in
    ⊎_elim (λ t. let at = eqb-true x.0 n t in ((omega arith), (omega arith)))
    (λ f. let there = named-there count x.0 n rest a o.2 (sym (cond-false (x.0 == n) (Some x.1) (action_of rest n) f) ∙ e) in
    let more = there.0 in ((omega arith), there.1))
    (cases_Bool (x.0 == n))

pub applied-count : (acts : List (ℕ × Action)) (page : PageView) → length (applied acts page).slots ≡ length page.slots
applied-count [] page = refl
applied-count (a ∷ rest) page = applied-count rest (after_action page a.0 a.1) ∙ length-with_slot page.slots a.0 (made_by a.1)

pub applied-slot : (low : ℕ) (acts : List (ℕ × Action)) (page : PageView) → AreInOrder (length page.slots) low acts
    → (n : ℕ) → slot_at (applied acts page).slots n ≡ acted (slot_at page.slots n) (action_of acts n)
applied-slot low [] page o n = refl
applied-slot low (a ∷ rest) page o n =
    let lt = o.0 in
    let after = after_action page a.0 a.1 in
    let long : length after.slots ≡ length page.slots = length-with_slot page.slots a.0 (made_by a.1) in
    let order : AreInOrder (length after.slots) a.0 rest = subst (λ c. AreInOrder c a.0 rest) (sym long) o.2 in
    applied-slot a.0 rest after order n ∙ ⊎_elim
    (λ t. let at = eqb-true a.0 n t in
    ap (acted (slot_at after.slots n)) (order-none (length page.slots) a.0 n rest o.2 (omega arith))
    ∙ ap (slot_at after.slots) (sym at) ∙ slot_at-with_slot page.slots a.0 (made_by a.1) ((omega arith), o.1)
    ∙ sym (ap (acted (slot_at page.slots n)) (cond-true (a.0 == n) (Some a.1) (action_of rest n) t)))
    (λ f. ap (λ s. acted s (action_of rest n)) (slot_at-with_slot_other page.slots a.0 n (made_by a.1) (omega arith) (λ e. let t = eq-eqb a.0 n (sym e) in cc))
    ∙ sym (ap (acted (slot_at page.slots n)) (cond-false (a.0 == n) (Some a.1) (action_of rest n) f)))
    (cases_Bool (a.0 == n))

pub applied-flag : (acts : List (ℕ × Action)) (page : PageView) → (applied acts page).flag ≡ page.flag
applied-flag [] page = refl
applied-flag (a ∷ rest) page = applied-flag rest (after_action page a.0 a.1)

-- A plan that is applied as far as action i.

pub record IsApplying (plan : List (ℕ × Action)) (before page : PageView) (i : ℕ) : Type 0 where
  pub left : applied (drop i plan) page ≡ applied plan before
  pub can : CanApply (length page.slots) (drop i plan)

pub prefix-of : (plan : List (ℕ × Action)) (i : ℕ) (d : ℕ × Action) → i < length plan → drop i plan ≡ get_or plan i d ∷ drop (i + 1) plan
prefix-of plan i d within = rw add-one (drop-cons plan i d within)
