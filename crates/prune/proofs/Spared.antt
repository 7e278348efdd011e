-- What stays of a sound page is not cut.
use Rattle.std.proofs.Common.{◌≡◌, ℕ, zero, suc, ◌+◌, ◌<◌, ◌≤◌, ◌==◌, ◌&&◌, Bool, true, false, not, nat_eq, if◌then◌else◌, List, length, get_or, take, Option, Some, None, arith, ⊎_elim, sym, ap, ◌∙◌, refl, subst, slice_get}
use Rattle.std.specs.List.{list_any}
use Rattle.std.specs.Option.{option_map}
use Rattle.std.proofs.lemmas.Bool.{cases_lt, cases_Bool, eqb-true, eq-eqb, cond-true, cond-false}
use Rattle.page_sheet.specs.declared.slot.Slot.{Slot}
use Rattle.page_sheet.specs.Slots.{slot_at, version_at}
use Rattle.tuple_header.specs.Version.{Version}
use Rattle.tuple_header.specs.declared.version.Header.{Header}
use Rattle.tuple_header.specs.Marks.{is_frozen, is_heap_only}
use Rattle.commit_status.specs.Window.{Window, IsAborted}
use Rattle.visibility.specs.Visible.{IsFrozen}
use Rattle.hot_chain.specs.Chain.{has_aborted, first_of, IsChain}
use Rattle.prune_actions.specs.declared.Action.{Action}
use Rattle.prune_actions.specs.declared.Action.TheVariants as action
use Rattle.sound_page.specs.Dead.{IsDeadAt}
use Rattle.prune.specs.Cutting.{IsCutCount, IsCut}
use Rattle.prune.specs.Pruning.{root_action, chain_action, loose_in, orphan_action, IsInChainOf, PrunesSlot, by_root, by_none, IsPruned}
use Rattle.sound_page.specs.Sound.{SoundPage}
use Rattle.sound_page.proofs.Links.{version-there}
use Rattle.sound_page.proofs.ChainPlaces.{place-of, in_front-place, first-normal, chain-first}
use Rattle.prune.proofs.Removing.{acted-version, pruned-removes}
use Rattle.sound_page.proofs.Undone.{aborted-has}
use Rattle.sound_page.proofs.SoundChains.{exact, plain-root, in-leads}

-- what comes after the last dead version is not cut
pub uncut-place : (w : Window) (horizon : ℕ) (slots : List Slot) (n : ℕ) (chain : List ℕ) (cut j : ℕ) → SoundPage w slots → IsChain (has_aborted w) slots n chain
    → IsCutCount w horizon slots chain cut → cut ≤ j → j < length chain → ¬ IsCut w horizon slots (get_or chain j 0)
uncut-place w horizon slots n chain cut j sound c count le within is =
    let later = exact w slots n chain j is.later.turns is.last sound c within is.later.along in
    count.none_after (j + is.later.turns) (omega arith) later.within (subst (IsDeadAt w horizon slots) later.is is.dead)

-- What stays is not cut.

root-none : (cut : ℕ) (o : Option ℕ) → root_action cut o ≡ None → cut ≡ 0
root-none zero o e = refl
root-none (suc cut) None e = absurd (cc)
root-none (suc cut) (Some k) e = absurd (cc)

pub record IsPlace (chain : List ℕ) (cut n : ℕ) : Type 0 where
  pub place : ℕ
  pub after : cut ≤ place
  pub within : place < length chain
  pub is : get_or chain place 0 ≡ n

-- a version to which nothing is done comes after what is cut
spared-place : (aborted : ℕ → Bool) (slots : List Slot) (root cut n : ℕ) (chain : List ℕ) (t : Version) → version_at slots n ≡ Some t → IsInChainOf aborted slots root chain n → cut ≤ length chain
    → chain_action root chain cut n ≡ None → IsPlace chain cut n
spared-place aborted slots root cut n chain t at o within none = ⊎_elim
    (λ yes_root.
    let same = eqb-true n root yes_root in
    let zero_is = root-none cut (slice_get chain cut) (sym (cond-true (n == root) (root_action cut (slice_get chain cut)) (if list_any (nat_eq n) (take cut chain) then Some action.Unuse else None) yes_root) ∙ none) in
    let first = chain-first aborted slots root n chain o.is_chain (ap (first_of slots) (sym same) ∙ first-normal slots n t at) in
    record { place = 0; after = omega arith; within = first.0; is = first.1 })
    (λ other. ⊎_elim
    (λ same. absurd (let e = eq-eqb n root same in cc))
    (λ holds.
    let p = place-of n chain holds in
    ⊎_elim
    (λ lt.
    let prefix = in_front-place n cut p.0 chain within lt p.2 in
    let e = sym (cond-true (list_any (nat_eq n) (take cut chain)) (Some action.Unuse) None prefix)
    ∙ sym (cond-false (n == root) (root_action cut (slice_get chain cut)) (if list_any (nat_eq n) (take cut chain) then Some action.Unuse else None) other) ∙ none in
    absurd (cc))
    (λ ge. record { place = p.0; after = ge; within = p.1; is = p.2 })
    (cases_lt p.0 cut))
    o.holds)
    (cases_Bool (n == root))

thaw : (h : Header) → ¬ IsFrozen h → is_frozen h ≡ false
thaw h never = ⊎_elim (λ t. absurd (never t)) (λ f. f) (cases_Bool (is_frozen h))

lost-some : (w : Window) (slots : List Slot) (n : ℕ) (t : Version) → version_at slots n ≡ Some t → is_heap_only t.header ≡ true → ¬ IsFrozen t.header → IsAborted w t.header.xmin.0
    → orphan_action w slots n ≡ Some action.Unuse
lost-some w slots n t at heap_only thawed aborted =
    ap (loose_in w) (ap (option_map (λ v. v.header)) at) ∙ three (is_heap_only t.header) (is_frozen t.header) (has_aborted w t.header.xmin.0) heap_only (thaw t.header thawed) (aborted-has w t.header.xmin.0 aborted)
  where
    three : (a b c : Bool) → a ≡ true → b ≡ false → c ≡ true → (if a && (not b && c) then Some action.Unuse else None) ≡ Some action.Unuse
    three true false true e f g = refl
    three false b c e f g = absurd (cc)
    three a true c e f g = absurd (cc)
    three a b false e f g = absurd (cc)

pub version-kept : (w : Window) (horizon : ℕ) (slots after : List Slot) (n : ℕ) (t : Version) → SoundPage w slots → IsPruned w horizon slots after → version_at after n ≡ Some t
    → (version_at slots n ≡ Some t) × ¬ IsCut w horizon slots n
version-kept w horizon slots after n t sound p at =
    let old = (pruned-removes w horizon slots after p).kept n t at in
    let each = p.each n (version-there slots n t old) in
    let none = (acted-version (slot_at slots n) (slot_at after n) each.answer t each.is at).0 in
    (old, by each.answer old each.does none)
  where
    by : (o : Option Action) → version_at slots n ≡ Some t → PrunesSlot w horizon slots n o → o ≡ None → ¬ IsCut w horizon slots n
    by o old (by_root root chain cut i c e) none =
        let s = spared-place (has_aborted w) slots root cut n chain t old i c.within (sym e ∙ none) in
        subst (λ k. ¬ IsCut w horizon slots k) s.is (uncut-place w horizon slots root chain cut s.place sound i.is_chain c s.after s.within)
    by o old (by_none l e) none = λ cut. ⊎_elim
        (λ heap_only. ⊎_elim
        (λ u. let f = lost-some w slots n t old heap_only u.0 u.1 in let g : Some action.Unuse ≡ None = sym f ∙ sym e ∙ none in absurd (cc))
        (λ r. l.unreached r.root (in-leads w slots r.root n sound r.leads))
        (sound.owned n t old heap_only))
        (λ plain. let starts = plain-root slots n t old plain in let off = l.no_root in absurd (cc))
        (cases_Bool (is_heap_only t.header))

-- no version is dead
pub pruned-none_dead : (w : Window) (horizon : ℕ) (slots after : List Slot) → SoundPage w slots → IsPruned w horizon slots after → (n : ℕ) → ¬ IsDeadAt w horizon after n
pruned-none_dead w horizon slots after sound p n dead =
    let old = version-kept w horizon slots after n dead.version sound p dead.there in
    old.1 (record { last = n; later = record { turns = 0; along = refl }; dead = record { version = dead.version; there = old.0; dead = dead.dead } })
