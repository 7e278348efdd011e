-- What a plan that checks is, and does.
use Rattle.std.proofs.Common.{◌≡◌, ◌↔◌, ℕ, zero, suc, ◌<◌, ◌≤◌, ◌==◌, Bool, true, IsTrue, List, [], ◌∷◌, length, get_or, Option, Some, None, IsSome, arith, inl, inr, ⊎_elim, sym, ap, ◌∙◌, refl, subst, slice_get}
use Rattle.std.specs.Option.{option_and_then, option_map}
use Rattle.std.proofs.lemmas.Bool.{cases_Bool, eq-eqb, ne_eqb, cond-true, cond-false}
use Rattle.std.proofs.lemmas.Option.{slice_get_within, get_or_from_slice_get, same_Some}
use Rattle.page_sheet.specs.declared.slot.Slot.{Slot}
use Rattle.page_slots.specs.View.{PageView}
use Rattle.page_sheet.specs.Slots.{slot_at, version_at, version_of, SlotIsThere}
use Rattle.tuple_header.specs.Version.{Version}
use Rattle.tuple_header.specs.Marks.{is_heap_only}
use Rattle.commit_status.specs.Window.{Window}
use Rattle.hot_chain.specs.Chain.{has_aborted, is_root, first_of, IsChain}
use Rattle.prune_actions.specs.declared.Action.{Action}
use Rattle.prune_actions.specs.declared.Action.TheVariants as action
use Rattle.prune.specs.declared.marks.PruneVerdict.{PruneVerdict}
use Rattle.prune.specs.declared.marks.PruneVerdict.TheVariants.{Orphan}
use Rattle.prune.specs.Cutting.{IsCut, RemovesVersions}
use Rattle.prune.specs.Actions.{AreInOrder, HasTarget, CanApply, action_of, applied, acted}
use Rattle.prune.specs.Pruning.{root_action, orphan_action, IsInChainOf, PrunesSlot, by_root, by_none}
use Rattle.prune.specs.Marks.{mark_at, IsVerdict, NoneDead}
use Rattle.prune.specs.Checks.{IsPrefix, HasPrefix, IsAccounted, Checks}
use Rattle.prune.specs.Named.{named_at, IsLooseRight}
use Rattle.prune.proofs.Marking.{held-not_loose}
use Rattle.sound_page.proofs.Links.{member-there, member-version}
use Rattle.prune.proofs.Listing.{named-there, applied-slot}
use Rattle.sound_page.proofs.ChainPlaces.{place-of, root-leads, first-normal, chain-first, reaches-places}
use Rattle.prune.proofs.Idle.{spared-does}
use Rattle.prune.proofs.Removing.{acted-version, by-answer, lost-from, lost-cut, root-cut}
use Rattle.sound_page.proofs.SoundChains.{plain-root}

pub order-more : (a b low : ℕ) (acts : List (ℕ × Action)) → a ≤ b → AreInOrder a low acts → AreInOrder b low acts
order-more a b low [] h o = tt
order-more a b low (x ∷ rest) h o = (o.0, (let le = o.1 in omega arith), order-more a b x.0 rest h o.2)

same-names : (f g : ℕ → Option Action) → ((n : ℕ) → f n ≡ g n) → f ≡ g
same-names f g e = λ i n. e n i

does-accounted : (w : Window) (horizon : ℕ) (slots : List Slot) (n : ℕ) (a : Action) (o : Option Action) → PrunesSlot w horizon slots n o → o ≡ Some a → IsAccounted w slots n a
does-accounted w horizon slots n a o (by_root root chain cut i c f) e = IsAccounted.of_root root chain i
does-accounted w horizon slots n a o (by_none l f) e = IsAccounted.lost l (sym f ∙ e)

-- no slot is named of a chain that holds no dead version
spared-unnamed : (w : Window) (horizon : ℕ) (slots : List Slot) (named : ℕ → Option Action) (n root : ℕ) (chain : List ℕ) (a : Action)
    → (prefix : ℕ) × IsPrefix w horizon slots named root chain prefix → IsInChainOf (has_aborted w) slots root chain n → NoneDead w horizon slots chain → named n ≡ Some a → ⊥
spared-unnamed w horizon slots named n root chain a f i none e = ⊎_elim
    (λ same. at-start (root-cut f.0 (slice_get chain f.0) a (sym f.1.leads ∙ ap named (sym same) ∙ e)))
    (λ holds.
    let p = place-of n chain holds in
    let is_named : IsSome (named (get_or chain p.0 0)) = subst (λ k. IsSome (named k)) (sym p.2) (subst IsSome (sym e) refl) in
    let before = (f.1.removed p.0 p.1).0 is_named in
    at-start (omega arith)) i.holds
  where
    at-start : 0 < f.0 → ⊥
    at-start some = let d = f.1.cut 0 some in none d.0 d.2 d.3

accounted : (w : Window) (horizon : ℕ) (slots : List Slot) (n : ℕ) (a : Action) (mark : PruneVerdict) → length slots ≤ 291 → IsVerdict w horizon slots n mark
    → (mark ≡ Orphan → orphan_action w slots n ≡ Some a) → IsAccounted w slots n a
accounted w horizon slots n a mark few (IsVerdict.held root chain cut o c e) right = IsAccounted.of_root root chain o
accounted w horizon slots n a mark few (IsVerdict.spared s e) right = does-accounted w horizon slots n a (orphan_action w slots n) (spared-does w horizon slots n few s) (right e)

loose-right : (w : Window) (horizon : ℕ) (slots : List Slot) (named : ℕ → Option Action) (n : ℕ) (a : Action) (mark : PruneVerdict)
    → ((root : ℕ) → is_root slots root ≡ true → HasPrefix w horizon slots named root) → IsVerdict w horizon slots n mark → mark ≡ Orphan → named n ≡ Some a
    → IsAccounted w slots n a → orphan_action w slots n ≡ Some a
loose-right w horizon slots named n a mark prefixes m is e (IsAccounted.lost l f) = f
loose-right w horizon slots named n a mark prefixes (IsVerdict.held r c cut o d f) is e (IsAccounted.of_root root chain i) = absurd (held-not_loose _ (sym f ∙ is))
loose-right w horizon slots named n a mark prefixes (IsVerdict.spared s f) is e (IsAccounted.of_root root chain i) =
    absurd (spared-unnamed w horizon slots named n root chain a (prefixes root i.starts chain i.is_chain) i (s root chain i) e)

pub checked : (w : Window) (horizon : ℕ) (page : PageView) (change : ℕ) (actions : List (ℕ × Action)) (named : List (Option Action)) (marks : List PruneVerdict) (b : Bool)
    → length page.slots ≤ 291 → change ≡ page.change → AreInOrder (length page.slots) 0 actions → ((n : ℕ) → named_at named n ≡ action_of actions n)
    → ((n : ℕ) → IsVerdict w horizon page.slots n (mark_at marks n))
    → ((root : ℕ) → is_root page.slots root ≡ true → HasPrefix w horizon page.slots (named_at named) root)
    → (IsTrue b ↔ ((n : ℕ) → 1 ≤ n → n ≤ length page.slots → IsLooseRight w page.slots marks named n)) → IsTrue b ↔ Checks w horizon page change actions
checked w horizon page change actions named marks b few same order names marked prefixes t = (
  λ yes. record {
    same_change = same;
    in_order = order;
    prefixes = λ root starts. subst (λ f. HasPrefix w horizon page.slots f root) (same-names (named_at named) (action_of actions) names) (prefixes root starts);
    others = λ n a e.
        let there = named-there (length page.slots) 0 n actions a order e in
        accounted w horizon page.slots n a (mark_at marks n) few (marked n)
        (λ is. t.0 yes n there.0 there.1 is a (names n ∙ e));
  },
  λ c. t.1 (λ n from within is a e. loose-right w horizon page.slots (named_at named) n a (mark_at marks n) prefixes (marked n) is e (c.others n a (sym (names n) ∙ e))),
)

-- It can be applied.

can-from_order : (count low : ℕ) (acts : List (ℕ × Action)) → AreInOrder count low acts → ((n : ℕ) (a : Action) → action_of acts n ≡ Some a → HasTarget count a) → CanApply count acts
can-from_order count low [] o t = tt
can-from_order count low (x ∷ rest) o t =
    let lt = o.0 in (
      record { there = omega arith; within = o.1; target = t x.0 x.1 (cond-true (x.0 == x.0) (Some x.1) (action_of rest x.0) (eq-eqb x.0 x.0 refl)) },
      can-from_order count x.0 rest o.2 (λ n a e.
          let there = named-there count x.0 n rest a o.2 e in
          let more = there.0 in
          t n a (cond-false (x.0 == n) (Some x.1) (action_of rest n) (ne_eqb x.0 n (λ f. omega arith)) ∙ e)),
    )

root-target : (aborted : ℕ → Bool) (slots : List Slot) (root : ℕ) (chain : List ℕ) (prefix : ℕ) (o : Option ℕ) (a : Action) → IsChain aborted slots root chain
    → slice_get chain prefix ≡ o → root_action prefix o ≡ Some a → HasTarget (length slots) a
root-target aborted slots root chain zero o a c at e = absurd (cc)
root-target aborted slots root chain (suc prefix) None a c at e = subst (HasTarget (length slots)) (same_Some action.Kill a e) tt
root-target aborted slots root chain (suc prefix) (Some k) a c at e =
    let within = slice_get_within chain (suc prefix) k at in
    subst (HasTarget (length slots)) (same_Some (action.Redirect k) a e)
    (subst (SlotIsThere slots) (get_or_from_slice_get chain (suc prefix) k 0 at) (member-there aborted slots root chain (suc prefix) c within))

unused-target : (count : ℕ) (a : Action) → a ≡ action.Unuse → HasTarget count a
unused-target count a e = subst (HasTarget count) (sym e) tt

pub checks-target : (w : Window) (horizon : ℕ) (page : PageView) (change : ℕ) (actions : List (ℕ × Action)) → Checks w horizon page change actions
    → (n : ℕ) (a : Action) → action_of actions n ≡ Some a → HasTarget (length page.slots) a
checks-target w horizon page change actions c n a e = by (c.others n a e)
  where
    at-root : (root : ℕ) (chain : List ℕ) → is_root page.slots root ≡ true → IsChain (has_aborted w) page.slots root chain → n ≡ root → HasTarget (length page.slots) a
    at-root root chain starts is same =
        let f = c.prefixes root starts chain is in
        root-target (has_aborted w) page.slots root chain f.0 (slice_get chain f.0) a is refl (sym f.1.leads ∙ ap (action_of actions) (sym same) ∙ e)

    by : IsAccounted w page.slots n a → HasTarget (length page.slots) a
    by (IsAccounted.lost l f) = unused-target (length page.slots) a (lost-from w page.slots n a f).0
    by (IsAccounted.of_root root chain o) = ⊎_elim (at-root root chain o.starts o.is_chain)
        (λ holds.
        let p = place-of n chain holds in
        let v = member-version (has_aborted w) page.slots root chain p.0 o.is_chain p.1 in
        let at : version_at page.slots n ≡ Some v.version = ap (version_at page.slots) (sym p.2) ∙ v.there in
        ⊎_elim
        (λ heap_only.
        let f = c.prefixes root o.starts chain o.is_chain in
        let named : IsSome (action_of actions (get_or chain p.0 0)) = subst (λ k. IsSome (action_of actions k)) (sym p.2) (subst IsSome (sym e) refl) in
        let unused = f.1.unused p.0 v.version.header ((f.1.removed p.0 p.1).0 named) (ap (option_map (λ t. t.header)) v.there) heap_only in
        unused-target (length page.slots) a (same_Some a action.Unuse (sym e ∙ ap (action_of actions) (sym p.2) ∙ unused)))
        (λ plain.
        let starts = plain-root page.slots n v.version at plain in
        let leads = root-leads (has_aborted w) page.slots root n chain o.is_chain starts holds in
        at-root n leads.chain starts leads.is_chain refl)
        (cases_Bool (is_heap_only v.version.header))) o.holds

pub checks-can_apply : (w : Window) (horizon : ℕ) (page : PageView) (change : ℕ) (actions : List (ℕ × Action)) → Checks w horizon page change actions → CanApply (length page.slots) actions
checks-can_apply w horizon page change actions c = can-from_order (length page.slots) 0 actions c.in_order (checks-target w horizon page change actions c)

-- What it removes would be cut.

prefix-cut : (w : Window) (horizon : ℕ) (slots : List Slot) (named : ℕ → Option Action) (root prefix i : ℕ) (chain : List ℕ) → IsChain (has_aborted w) slots root chain
    → IsPrefix w horizon slots named root chain prefix → i < prefix → IsCut w horizon slots (get_or chain i 0)
prefix-cut w horizon slots named root prefix i chain c f h =
    let d = f.cut i h in
    record { last = get_or chain d.0 0; later = reaches-places w slots root chain i d.0 c d.1 d.2; dead = d.3 }

named-cut : (w : Window) (horizon : ℕ) (page : PageView) (change : ℕ) (actions : List (ℕ × Action)) → Checks w horizon page change actions
    → (n : ℕ) (t : Version) (a : Action) → version_at page.slots n ≡ Some t → action_of actions n ≡ Some a → IsCut w horizon page.slots n
named-cut w horizon page change actions c n t a at e = by (c.others n a e)
  where
    by : IsAccounted w page.slots n a → IsCut w horizon page.slots n
    by (IsAccounted.lost l f) = lost-cut w horizon page.slots n (lost-from w page.slots n a f).1
    by (IsAccounted.of_root root chain o) =
        let f = c.prefixes root o.starts chain o.is_chain in
        ⊎_elim
        (λ same.
        let first = chain-first (has_aborted w) page.slots root n chain o.is_chain (ap (first_of page.slots) (sym same) ∙ first-normal page.slots n t at) in
        subst (IsCut w horizon page.slots) first.1 (prefix-cut w horizon page.slots (action_of actions) root f.0 0 chain o.is_chain f.1
        (root-cut f.0 (slice_get chain f.0) a (sym f.1.leads ∙ ap (action_of actions) (sym same) ∙ e))))
        (λ holds.
        let p = place-of n chain holds in
        let named : IsSome (action_of actions (get_or chain p.0 0)) = subst (λ k. IsSome (action_of actions k)) (sym p.2) (subst IsSome (sym e) refl) in
        subst (IsCut w horizon page.slots) p.2 (prefix-cut w horizon page.slots (action_of actions) root f.0 p.0 chain o.is_chain f.1 ((f.1.removed p.0 p.1).0 named)))
        o.holds

pub checks-removes : (w : Window) (horizon : ℕ) (page : PageView) (change : ℕ) (actions : List (ℕ × Action)) → Checks w horizon page change actions
    → RemovesVersions w horizon page.slots (applied actions page).slots
checks-removes w horizon page change actions c = record {
  kept = λ n t at. (acted-version (slot_at page.slots n) (slot_at (applied actions page).slots n) (action_of actions n) t (applied-slot 0 actions page c.in_order n) at).1;
  gone = λ n t at. by-answer (action_of actions n)
      (λ none. inl (ap (option_and_then version_of) (applied-slot 0 actions page c.in_order n ∙ ap (acted (slot_at page.slots n)) none) ∙ at))
      (λ a some. inr (named-cut w horizon page change actions c n t a at some));
}
