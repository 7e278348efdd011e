-- The free bytes of a page, and whether a slot is unused, as a plan is applied to it.
use Rattle.std.proofs.Common.{◌≡◌, ◌≢◌, ℕ, suc, ◌+◌, ◌-◌, ◌*◌, ◌<◌, ◌||◌, ◌==◌, Bool, true, false, nat_le, List, ◌∷◌, length, get_or, set, sum_by, Option, Some, None, arith, ⊎_elim, sym, ap, ◌∙◌, refl, eq-eqb}
use Rattle.std.proofs.lemmas.Bool.{cases_Bool, true≢false, ltb-true, ltb-false, ne_eqb, cond-true, cond-false}
use Rattle.std.proofs.lemmas.List.{length-set, get_or-set_same, get_or-set_other}
use Rattle.std.proofs.lemmas.List.Sums.{fails_before_first, passes_at_first, sum_by-set}
use Rattle.std.specs.List.{position_or_len}
use Rattle.tuple_header.specs.Version.{Version}
use Rattle.page_sheet.specs.declared.slot.Slot.{Slot}
use Rattle.page_sheet.specs.declared.slot.Slot.TheVariants.{Unused, Normal, Redirect, Dead}
use Rattle.page_slots.specs.View.{PageView}
use Rattle.page_sheet.specs.Slots.{is_unused, bytes_taken, slot_at, version_at, the_slot, has_unused, free_number}
use Rattle.page_sheet.proofs.SlotLemmas.{the_slot-from_slot_at, slot_at-from_version_at, same_or_other}
use Rattle.commit_status.specs.Window.{Window}
use Rattle.hot_chain.specs.Chain.{has_aborted, is_root, is_root_in}
use Rattle.sound_page.proofs.Links.{member-version}
use Rattle.sound_page.proofs.ChainPlaces.{place-of}
use Rattle.prune_actions.specs.declared.Action.{Action}
use Rattle.prune_actions.specs.declared.Action.TheVariants as action
use Rattle.prune.specs.Actions.{made_by, after_action, applied, CanApply, AreInOrder, action_of}
use Rattle.prune.specs.Pruning.{PrunesSlot, by_root, by_none, IsPlan}
use Rattle.prune.proofs.Listing.{named-there}
use Rattle.prune.proofs.Removing.{lost-from}

-- Whether a slot is unused.

unused-at : (slots : List Slot) (k : ℕ) → k < length slots → is_unused (get_or slots k Unused) ≡ true → has_unused slots ≡ true
unused-at slots k within e = ⊎_elim (λ t. t)
    (λ f. let least = ltb-false (position_or_len is_unused slots) (length slots) f in
    absurd (true≢false (sym e ∙ fails_before_first is_unused slots k Unused (omega arith))))
    (cases_Bool (has_unused slots))

none-unused : (slots : List Slot) → ((k : ℕ) → k < length slots → is_unused (get_or slots k Unused) ≡ false) → has_unused slots ≡ false
none-unused slots none = ⊎_elim
    (λ t. let within = ltb-true (position_or_len is_unused slots) (length slots) t in
    absurd (true≢false (sym (passes_at_first is_unused slots Unused within) ∙ none (position_or_len is_unused slots) within)))
    (λ f. f)
    (cases_Bool (has_unused slots))

-- in the place of a slot that is not, another counts
unused-set : (slots : List Slot) (i : ℕ) (s : Slot) → i < length slots → is_unused (get_or slots i Unused) ≡ false
    → has_unused (set slots i s) ≡ (has_unused slots || is_unused s)
unused-set slots i s within used =
    let long = length-set slots i s in
    ⊎_elim
    (λ some.
    let first : ℕ = position_or_len is_unused slots in
    let lt = ltb-true first (length slots) some in
    let passes = passes_at_first is_unused slots Unused lt in
    let other : first ≢ i = λ e. true≢false (sym passes ∙ ap (λ k. is_unused (get_or slots k Unused)) e ∙ used) in
    unused-at (set slots i s) first (omega arith) (ap is_unused (get_or-set_other slots i first s Unused other) ∙ passes)
    ∙ sym (ap (λ b. b || is_unused s) some))
    (λ none.
    let least = ltb-false (position_or_len is_unused slots) (length slots) none in
    ⊎_elim
    (λ new. unused-at (set slots i s) i (omega arith) (ap is_unused (get_or-set_same slots i s Unused within) ∙ new)
    ∙ sym (ap (λ b. b || is_unused s) none ∙ new))
    (λ old. none-unused (set slots i s) (λ k lt. ⊎_elim
    (λ same. ap (λ j. is_unused (get_or (set slots i s) j Unused)) same ∙ ap is_unused (get_or-set_same slots i s Unused within) ∙ old)
    (λ other. ap is_unused (get_or-set_other slots i k s Unused other) ∙ fails_before_first is_unused slots k Unused (omega arith))
    (same_or_other k i))
    ∙ sym (ap (λ b. b || is_unused s) none ∙ old))
    (cases_Bool (is_unused s)))
    (cases_Bool (has_unused slots))

-- where the free number is one of a slot, that one is unused
pub number-there : (slots : List Slot) (number count : ℕ) → number ≡ free_number slots → count ≡ length slots → nat_le number count ≡ has_unused slots
number-there slots number count n c =
    let first : ℕ = position_or_len is_unused slots in
    let next : number ≡ suc first = omega arith in
    ap (λ k. nat_le k count) next ∙ ap (λ k. nat_le (suc first) k) c

-- What a plan names is not unused.

version-used : (slots : List Slot) (n : ℕ) (t : Version) → version_at slots n ≡ Some t → is_unused (the_slot slots n) ≡ false
version-used slots n t at = ap is_unused (the_slot-from_slot_at slots n (Normal t) (slot_at-from_version_at slots n t at))

root-used : (slots : List Slot) (n : ℕ) (o : Option Slot) → slot_at slots n ≡ o → is_root_in o ≡ true → is_unused (the_slot slots n) ≡ false
root-used slots n None at starts = absurd (cc)
root-used slots n (Some Unused) at starts = absurd (cc)
root-used slots n (Some (Normal t)) at starts = ap is_unused (the_slot-from_slot_at slots n (Normal t) at)
root-used slots n (Some (Redirect k)) at starts = ap is_unused (the_slot-from_slot_at slots n (Redirect k) at)
root-used slots n (Some Dead) at starts = absurd (cc)

named-used : (w : Window) (horizon : ℕ) (slots : List Slot) (n : ℕ) (a : Action) (o : Option Action) → PrunesSlot w horizon slots n o → o ≡ Some a
    → is_unused (the_slot slots n) ≡ false
named-used w horizon slots n a o (by_root root chain cut i c e) is = ⊎_elim
    (λ same. root-used slots n (slot_at slots n) refl (ap (is_root slots) same ∙ i.starts))
    (λ holds.
    let p = place-of n chain holds in
    let v = member-version (has_aborted w) slots root chain p.0 i.is_chain p.1 in
    version-used slots n v.version (ap (version_at slots) (sym p.2) ∙ v.there))
    i.holds
named-used w horizon slots n a o (by_none l e) is =
    let lost = (lost-from w slots n a (sym e ∙ is)).1 in version-used slots n lost.version lost.there

-- What is made of it takes no bytes.

made-takes_none : (a : Action) → bytes_taken (made_by a) ≡ 0
made-takes_none action.Unuse = refl
made-takes_none action.Kill = refl
made-takes_none (action.Redirect k) = refl

-- Only one action makes a slot unused.
pub made-used : (a : Action) → ¬ (a ≡ action.Unuse) → is_unused (made_by a) ≡ false
made-used action.Unuse other = absurd (other refl)
made-used action.Kill other = refl
made-used (action.Redirect k) other = refl

-- What is reckoned while these actions are left: all that stands at the numbers over `low` stands there as before.
pub record IsReckoned (rest : List (ℕ × Action)) (before after : PageView) (free : ℕ) (unused : Bool) : Type 0 where
  pub page : PageView
  pub low : ℕ
  pub left : applied rest page ≡ after
  pub can : CanApply (length before.slots) rest
  pub in_order : AreInOrder (length before.slots) low rest
  pub count : length page.slots ≡ length before.slots
  pub same : (n : ℕ) → low < n → the_slot page.slots n ≡ the_slot before.slots n
  pub used : (n : ℕ) (a : Action) → action_of rest n ≡ Some a → is_unused (the_slot before.slots n) ≡ false
  pub free_is : free + (4 * length page.slots + sum_by bytes_taken page.slots) ≡ 8168
  pub unused_is : unused ≡ has_unused page.slots

pub reckoned-start : (w : Window) (horizon : ℕ) (actions : List (ℕ × Action)) (page : PageView) (free : ℕ) (unused : Bool) → IsPlan w horizon page.slots actions
    → CanApply (length page.slots) actions → free + (4 * length page.slots + sum_by bytes_taken page.slots) ≡ 8168 → unused ≡ has_unused page.slots
    → IsReckoned actions page (applied actions page) free unused
reckoned-start w horizon actions page free unused p can free_is unused_is = record {
  page = page;
  low = 0;
  left = refl;
  can = can;
  in_order = p.in_order;
  count = refl;
  same = λ n over. refl;
  used = λ n a e.
      let there = named-there (length page.slots) 0 n actions a p.in_order e in
      let from = there.0 in
      named-used w horizon page.slots n a (action_of actions n) (p.exact n ((omega arith), there.1)) e;
  free_is = free_is;
  unused_is = unused_is;
}

-- the next action
pub reckoned-step : (x : ℕ × Action) (rest : List (ℕ × Action)) (before after : PageView) (free : ℕ) (unused : Bool) → IsReckoned (x ∷ rest) before after free unused
    → IsReckoned rest before after (free + bytes_taken (the_slot before.slots x.0)) (unused || is_unused (made_by x.1))
reckoned-step x rest before after free unused r =
    let over = r.in_order.0 in
    let top = r.in_order.1 in
    let count = r.count in
    let s = made_by x.1 in
    let slots = r.page.slots in
    let place : ℕ = x.0 - 1 in
    let within : place < length slots = omega arith in
    let here : get_or slots place Unused ≡ the_slot before.slots x.0 = r.same x.0 over in
    let used : is_unused (get_or slots place Unused) ≡ false =
    ap is_unused here ∙ r.used x.0 x.1 (cond-true (x.0 == x.0) (Some x.1) (action_of rest x.0) (eq-eqb x.0 x.0 refl)) in
    let long = length-set slots place s in
    let sum = sum_by-set bytes_taken slots place s Unused within in
    let none = made-takes_none x.1 in
    let bytes : bytes_taken (get_or slots place Unused) ≡ bytes_taken (the_slot before.slots x.0) = ap bytes_taken here in
    let free_was = r.free_is in
    record {
      page = after_action r.page x.0 x.1;
      low = x.0;
      left = r.left;
      can = r.can.1;
      in_order = r.in_order.2;
      count = long ∙ count;
      same = λ n more. get_or-set_other slots place (n - 1) s Unused (λ e. omega arith) ∙ r.same n (omega arith);
      used = λ n a e.
          let there = named-there (length before.slots) x.0 n rest a r.in_order.2 e in
          let more = there.0 in
          r.used n a (cond-false (x.0 == n) (Some x.1) (action_of rest n) (ne_eqb x.0 n (λ f. omega arith)) ∙ e);
      free_is = omega arith;
      unused_is = ap (λ b. b || is_unused s) r.unused_is ∙ sym (unused-set slots place s within used);
    }
