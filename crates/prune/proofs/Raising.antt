-- A plan that checks changes each slot that it names.
use Rattle.std.proofs.Common.{◌≡◌, ℕ, ◌==◌, true, false, List, [], ◌∷◌, length, Option, Some, None, arith, ⊎_elim, sym, ap, ◌∙◌, refl, subst}
use Rattle.std.proofs.lemmas.Bool.{eq-eqb, ne_eqb, cond-true, cond-false}
use Rattle.page_sheet.specs.declared.slot.Slot.{Slot}
use Rattle.page_sheet.specs.declared.slot.Slot.TheVariants.{Unused, Normal, Redirect, Dead}
use Rattle.page_slots.specs.View.{PageView}
use Rattle.page_sheet.specs.Slots.{slot_at, version_at, the_slot, next_change, change_unless, SlotIsThere}
use Rattle.page_sheet.proofs.SlotLemmas.{slot_at-there, the_slot-from_slot_at, slot_at-from_version_at, slot_at-with_slot_other, length-with_slot}
use Rattle.tuple_header.specs.Version.{Version}
use Rattle.commit_status.specs.Window.{Window}
use Rattle.hot_chain.specs.Chain.{has_aborted, is_root, is_root_in}
use Rattle.prune_actions.specs.declared.Action.{Action}
use Rattle.prune_actions.specs.declared.Action.TheVariants as action
use Rattle.prune.specs.Actions.{is_done, made_by, after_action, applied, AreInOrder, action_of, raised}
use Rattle.prune.specs.Checks.{IsAccounted, Checks}
use Rattle.sound_page.proofs.Links.{member-version}
use Rattle.prune.proofs.Listing.{named-there}
use Rattle.sound_page.proofs.ChainPlaces.{place-of}
use Rattle.prune.proofs.Removing.{lost-from}
use Rattle.prune.proofs.PlanChecks.{own-target}

version-new : (a : Action) (t : Version) → is_done a (Normal t) ≡ false
version-new action.Unuse t = refl
version-new action.Kill t = refl
version-new (action.Redirect k) t = refl

redirect-new : (a : Action) (k : ℕ) → ¬ (a ≡ action.Redirect k) → is_done a (Redirect k) ≡ false
redirect-new action.Unuse k other = refl
redirect-new action.Kill k other = refl
redirect-new (action.Redirect j) k other = ne_eqb k j (λ e. other (ap (λ x. action.Redirect x) (sym e)))

at-version : (slots : List Slot) (n : ℕ) (a : Action) (t : Version) → version_at slots n ≡ Some t → is_done a (the_slot slots n) ≡ false
at-version slots n a t at = ap (is_done a) (the_slot-from_slot_at slots n (Normal t) (slot_at-from_version_at slots n t at)) ∙ version-new a t

-- what is named is not done already
named-new : (w : Window) (horizon : ℕ) (page : PageView) (change : ℕ) (actions : List (ℕ × Action)) → Checks w horizon page change actions
    → (n : ℕ) (a : Action) → action_of actions n ≡ Some a → is_done a (the_slot page.slots n) ≡ false
named-new w horizon page change actions c n a e = by (c.others n a e)
  where
    at-root : (o : Option Slot) → slot_at page.slots n ≡ o → is_root_in o ≡ true → is_done a (the_slot page.slots n) ≡ false
    at-root None at starts = absurd (cc)
    at-root (Some Unused) at starts = absurd (cc)
    at-root (Some (Normal t)) at starts = ap (is_done a) (the_slot-from_slot_at page.slots n (Normal t) at) ∙ version-new a t
    at-root (Some (Redirect k)) at starts = ap (is_done a) (the_slot-from_slot_at page.slots n (Redirect k) at)
        ∙ redirect-new a k (λ same. own-target w horizon page change actions n k c at (e ∙ ap Some same))
    at-root (Some Dead) at starts = absurd (cc)

    by : IsAccounted w page.slots n a → is_done a (the_slot page.slots n) ≡ false
    by (IsAccounted.lost l f) = let lost = (lost-from w page.slots n a f).1 in at-version page.slots n a lost.version lost.there
    by (IsAccounted.of_root root chain o) = ⊎_elim
        (λ same. at-root (slot_at page.slots n) refl (ap (is_root page.slots) same ∙ o.starts))
        (λ holds.
        let p = place-of n chain holds in
        let v = member-version (has_aborted w) page.slots root chain p.0 o.is_chain p.1 in
        at-version page.slots n a v.version (ap (version_at page.slots) (sym p.2) ∙ v.there))
        o.holds

all-new : (low : ℕ) (acts : List (ℕ × Action)) (page : PageView) → AreInOrder (length page.slots) low acts
    → ((n : ℕ) (a : Action) → action_of acts n ≡ Some a → is_done a (the_slot page.slots n) ≡ false) → (applied acts page).change ≡ raised (length acts) page.change
all-new low [] page o new = refl
all-new low (x ∷ rest) page o new =
    let lt = o.0 in
    let after = after_action page x.0 x.1 in
    let long : length after.slots ≡ length page.slots = length-with_slot page.slots x.0 (made_by x.1) in
    let order : AreInOrder (length after.slots) x.0 rest = subst (λ c. AreInOrder c x.0 rest) (sym long) o.2 in
    let here = new x.0 x.1 (cond-true (x.0 == x.0) (Some x.1) (action_of rest x.0) (eq-eqb x.0 x.0 refl)) in
    let step : after.change ≡ next_change page.change = ap (λ b. change_unless b page.change) here in
    all-new x.0 rest after order (λ n a e.
    let there = named-there (length page.slots) x.0 n rest a o.2 e in
    let more = there.0 in
    let is_there : SlotIsThere page.slots n = ((omega arith), there.1) in
    let same : the_slot after.slots n ≡ the_slot page.slots n = the_slot-from_slot_at after.slots n (the_slot page.slots n)
    (slot_at-with_slot_other page.slots x.0 n (made_by x.1) (omega arith) (λ f. omega arith) ∙ slot_at-there page.slots n is_there) in
    ap (is_done a) same ∙ new n a (cond-false (x.0 == n) (Some x.1) (action_of rest n) (ne_eqb x.0 n (λ f. omega arith)) ∙ e))
    ∙ ap (raised (length rest)) step

pub checked-raises : (w : Window) (horizon : ℕ) (page : PageView) (change : ℕ) (actions : List (ℕ × Action)) → Checks w horizon page change actions
    → (applied actions page).change ≡ raised (length actions) page.change
checked-raises w horizon page change actions c = all-new 0 actions page c.in_order (named-new w horizon page change actions c)
