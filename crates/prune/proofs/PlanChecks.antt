-- Where no slot is in the chains of two roots, a plan checks.
use Rattle.std.proofs.Common.{◌≡◌, ◌≢◌, ◌↔◌, ℕ, zero, suc, ◌-◌, ◌<◌, ◌≤◌, ◌==◌, Bool, true, false, nat_eq, if◌then◌else◌, List, [], length, get_or, take, Option, Some, None, is_some, IsSome, arith, inl, inr, ⊎_elim, sym, ap, ◌∙◌, refl, subst, slice_get}
use Rattle.std.specs.List.{list_any, IsDistinct}
use Rattle.std.specs.Option.{option_map, option_and_then}
use Rattle.std.proofs.lemmas.Bool.{cases_lt, cases_Bool, eqb-true, eq-eqb, ne_eqb, cond-true, cond-false}
use Rattle.std.proofs.lemmas.Option.{slice_get_within, get_or_from_slice_get, slice_get-get_or, same_Some}
use Rattle.page_sheet.specs.declared.slot.Slot.{Slot}
use Rattle.page_sheet.specs.declared.slot.Slot.TheVariants.{Normal, Redirect}
use Rattle.page_slots.specs.View.{PageView}
use Rattle.page_sheet.specs.Slots.{slot_at, version_at, header_at, SlotIsThere}
use Rattle.page_sheet.proofs.SlotLemmas.{slot_at-from_version_at}
use Rattle.tuple_header.specs.declared.version.Header.{Header}
use Rattle.tuple_header.specs.Marks.{is_heap_only}
use Rattle.commit_status.specs.Window.{Window}
use Rattle.hot_chain.specs.Chain.{has_aborted, is_root, first_of, start_in, IsChain}
use Rattle.hot_chain.proofs.Chains.{chain-one, root-there, distinct-places}
use Rattle.prune_actions.specs.declared.Action.{Action}
use Rattle.prune_actions.specs.declared.Action.TheVariants as action
use Rattle.prune.specs.Cutting.{IsCutCount}
use Rattle.sound_page.specs.Links.{NoSharedSlots}
use Rattle.prune.specs.Actions.{action_of}
use Rattle.prune.specs.Pruning.{root_action, chain_action, IsInChainOf, PrunesSlot, by_root, by_none, IsPlan}
use Rattle.prune.specs.Checks.{IsPrefix, IsAccounted, Checks}
use Rattle.sound_page.proofs.Links.{member-there, member-version}
use Rattle.prune.proofs.Listing.{named-there}
use Rattle.sound_page.proofs.ChainPlaces.{place-of, at-place, place-in_front, in_front-place, root-first, root-plain}
use Rattle.prune.proofs.CutPlaces.{of-one, of-not_loose}
use Rattle.prune.proofs.Unshared.{does-by}
use Rattle.prune.proofs.Removing.{lost-from}

same-place : (xs : List ℕ) (i j : ℕ) → IsDistinct nat_eq xs → i < length xs → j < length xs → get_or xs i 0 ≡ get_or xs j 0 → i ≡ j
same-place xs i j d h k e = ⊎_elim (λ lt. absurd (distinct-places xs i j d lt k e))
    (λ ge. ⊎_elim (λ gt. absurd (distinct-places xs j i d gt h (sym e))) (λ le. omega arith) (cases_lt j i)) (cases_lt i j)

root-some : (cut : ℕ) (o : Option ℕ) → IsSome (root_action cut o) ↔ (0 < cut)
root-some zero o = ((λ s. absurd (let f : false ≡ true = s in cc)), (λ h. absurd (omega arith)))
root-some (suc cut) None = ((λ s. omega arith), (λ h. refl))
root-some (suc cut) (Some k) = ((λ s. omega arith), (λ h. refl))

unuse-some : (b : Bool) → IsSome (if b then Some action.Unuse else None) ↔ (b ≡ true)
unuse-some true = ((λ s. refl), (λ h. refl))
unuse-some false = ((λ s. absurd (let f : false ≡ true = s in cc)), (λ h. absurd (cc)))

-- among the slots of a chain those below the cut are named
chain-some : (root cut i : ℕ) (chain : List ℕ) → IsDistinct nat_eq chain → cut ≤ length chain → i < length chain → (get_or chain i 0 ≡ root → i ≡ 0)
    → IsSome (chain_action root chain cut (get_or chain i 0)) ↔ (i < cut)
chain-some root cut i chain d within h first = ⊎_elim
    (λ t.
    let zero_is = first (eqb-true (get_or chain i 0) root t) in
    let e = cond-true (get_or chain i 0 == root) (root_action cut (slice_get chain cut)) (if list_any (nat_eq (get_or chain i 0)) (take cut chain) then Some action.Unuse else None) t in
    let s = root-some cut (slice_get chain cut) in
    ((λ some. let lt = s.0 (subst IsSome e some) in omega arith), (λ lt. subst IsSome (sym e) (s.1 (omega arith)))))
    (λ f.
    let e = cond-false (get_or chain i 0 == root) (root_action cut (slice_get chain cut)) (if list_any (nat_eq (get_or chain i 0)) (take cut chain) then Some action.Unuse else None) f in
    let s = unuse-some (list_any (nat_eq (get_or chain i 0)) (take cut chain)) in (
      (λ some.
          let p = place-in_front (get_or chain i 0) cut chain within (s.0 (subst IsSome e some)) in
          let lt = p.1 in
          let same = same-place chain p.0 i d (omega arith) h p.2 in
          omega arith),
      (λ lt. subst IsSome (sym e) (s.1 (in_front-place (get_or chain i 0) cut i chain within lt refl))),
    ))
    (cases_Bool (get_or chain i 0 == root))

pub record SomeCount (w : Window) (horizon : ℕ) (slots : List Slot) (chain : List ℕ) : Type 0 where
  pub cut : ℕ
  pub is : IsCutCount w horizon slots chain cut

pub root-count : (w : Window) (horizon : ℕ) (slots : List Slot) (root : ℕ) (chain : List ℕ) (o : Option Action) → NoSharedSlots (has_aborted w) slots → IsInChainOf (has_aborted w) slots root chain root
    → PrunesSlot w horizon slots root o → SomeCount w horizon slots chain
root-count w horizon slots root chain o unshared i (by_root other others_chain cut j d e) =
    let one : other ≡ root = of-one (has_aborted w) slots other root root others_chain chain unshared j i in
    let chains : others_chain ≡ chain = chain-one (has_aborted w) slots root others_chain chain (subst (λ r. IsChain (has_aborted w) slots r others_chain) one j.is_chain) i.is_chain in
    record { cut = cut; is = subst (λ l. IsCutCount w horizon slots l cut) chains d }
root-count w horizon slots root chain o unshared i (by_none l e) = absurd (of-not_loose (has_aborted w) slots root root chain i l)

-- what pruning does to a root and its chain is a prefix
pub plan-prefix : (w : Window) (horizon : ℕ) (slots : List Slot) (named : ℕ → Option Action) (root cut : ℕ) (chain : List ℕ) → is_root slots root ≡ true → IsChain (has_aborted w) slots root chain
    → IsCutCount w horizon slots chain cut → ((n : ℕ) → IsInChainOf (has_aborted w) slots root chain n → SlotIsThere slots n → named n ≡ chain_action root chain cut n)
    → IsPrefix w horizon slots named root chain cut
plan-prefix w horizon slots named root cut chain starts is count does = record {
  within = count.within;
  removed = λ i h. let e = of-place i h in
      let s = chain-some root cut i chain is.distinct count.within h (first i h) in
      ((λ some. s.0 (subst IsSome e some)), (λ lt. subst IsSome (sym e) (s.1 lt)));
  cut = λ i h. (cut - 1, (omega arith), (let l = count.within in omega arith), count.dead (omega arith));
  unused = λ i header h at heap_only. unused i header h at heap_only;
  leads = does root (record { starts = starts; is_chain = is; holds = inl refl }) (root-there slots root starts)
      ∙ cond-true (root == root) (root_action cut (slice_get chain cut)) (if list_any (nat_eq root) (take cut chain) then Some action.Unuse else None) (eq-eqb root root refl);
}
  where
    of-place : (i : ℕ) → i < length chain → named (get_or chain i 0) ≡ chain_action root chain cut (get_or chain i 0)
    of-place i h = does (get_or chain i 0) (record { starts = starts; is_chain = is; holds = inr (at-place (get_or chain i 0) chain i h refl) })
        (member-there (has_aborted w) slots root chain i is h)

    first : (i : ℕ) → i < length chain → get_or chain i 0 ≡ root → i ≡ 0
    first i h same =
        let f = root-first (has_aborted w) slots root root chain is starts (at-place root chain i h same) in
        same-place chain i 0 is.distinct h (omega arith) (same ∙ sym f)

    unused : (i : ℕ) (header : Header) → i < cut → header_at slots (get_or chain i 0) ≡ Some header → is_heap_only header ≡ true → named (get_or chain i 0) ≡ Some action.Unuse
    unused i header h at heap_only =
        let within : i < length chain = (let l = count.within in omega arith) in
        let v = member-version (has_aborted w) slots root chain i is within in
        let same : v.version.header ≡ header = same_Some v.version.header header (sym (ap (option_map (λ t. t.header)) v.there) ∙ at) in
        let k = get_or chain i 0 in
        of-place i within
        ∙ cond-false (k == root) (root_action cut (slice_get chain cut)) (if list_any (nat_eq k) (take cut chain) then Some action.Unuse else None)
        (ne_eqb k root (λ e.
        let plain = root-plain slots root v.version starts (ap (version_at slots) (sym e) ∙ v.there) in
        let yes : is_heap_only v.version.header ≡ true = ap is_heap_only same ∙ heap_only in
        cc))
        ∙ cond-true (list_any (nat_eq k) (take cut chain)) (Some action.Unuse) None (in_front-place k cut i chain count.within h refl)

pub plan-checks : (w : Window) (horizon : ℕ) (page : PageView) (actions : List (ℕ × Action)) → NoSharedSlots (has_aborted w) page.slots → IsPlan w horizon page.slots actions
    → Checks w horizon page page.change actions
plan-checks w horizon page actions unshared p = record {
  same_change = refl;
  in_order = p.in_order;
  prefixes = λ root starts chain is.
      let of : IsInChainOf (has_aborted w) page.slots root chain root = record { starts = starts; is_chain = is; holds = inl refl } in
      let c = root-count w horizon page.slots root chain (action_of actions root) unshared of (p.exact root (root-there page.slots root starts)) in (
        c.cut,
        plan-prefix w horizon page.slots (action_of actions) root c.cut chain starts is c.is
            (λ n o there. does-by w horizon page.slots n root c.cut chain (action_of actions n) unshared o c.is (p.exact n there)),
      );
  others = λ n a e.
      let there = named-there (length page.slots) 0 n actions a p.in_order e in
      accounted n a (action_of actions n) (p.exact n there) e;
}
  where
    accounted : (n : ℕ) (a : Action) (o : Option Action) → PrunesSlot w horizon page.slots n o → o ≡ Some a → IsAccounted w page.slots n a
    accounted n a o (by_root root chain cut i c e) is = IsAccounted.of_root root chain i
    accounted n a o (by_none l e) is = IsAccounted.lost l (sym e ∙ is)

-- an empty plan checks
pub empty-checks : (w : Window) (horizon : ℕ) (page : PageView) → Checks w horizon page page.change []
empty-checks w horizon page = record {
  same_change = refl;
  in_order = tt;
  prefixes = λ root starts chain is. (
    0,
    record {
      within = omega arith;
      removed = λ i h. ((λ some. absurd (let f : false ≡ true = some in cc)), (λ lt. absurd (omega arith)));
      cut = λ i h. absurd (omega arith);
      unused = λ i header h at heap_only. absurd (omega arith);
      leads = refl;
    },
  );
  others = λ n a e. absurd (cc);
}

pub prefix-target : (root prefix k first : ℕ) (chain : List ℕ) (o : Option ℕ) → IsDistinct nat_eq chain → slice_get chain 0 ≡ Some first → slice_get chain prefix ≡ o
    → root_action prefix o ≡ Some (action.Redirect k) → k ≢ first
prefix-target root zero k first chain o d start at e = absurd (cc)
prefix-target root (suc prefix) k first chain None d start at e = absurd (cc)
prefix-target root (suc prefix) k first chain (Some j) d start at e = λ same.
    let f : action.Redirect j ≡ action.Redirect k = same_Some (action.Redirect j) (action.Redirect k) e in
    let jk : j ≡ k = cc in
    let within = slice_get_within chain (suc prefix) j at in
    absurd (distinct-places chain 0 (suc prefix) d (omega arith) within
    (get_or_from_slice_get chain 0 first 0 start ∙ sym same ∙ sym jk ∙ sym (get_or_from_slice_get chain (suc prefix) j 0 at)))

redirect-first : (slots : List Slot) (root k first : ℕ) → slot_at slots root ≡ Some (Redirect k) → first_of slots root ≡ Some first → first ≡ k
redirect-first slots root k first at e = by (is_some (version_at slots k)) (sym (ap (option_and_then (start_in slots root)) at) ∙ e)
  where
    by : (b : Bool) → (if b then Some k else None) ≡ Some first → first ≡ k
    by true f = sym (same_Some k first f)
    by false f = absurd (cc)

leads-within : (prefix k : ℕ) (chain : List ℕ) (o : Option ℕ) → slice_get chain prefix ≡ o → root_action prefix o ≡ Some (action.Redirect k) → prefix < length chain
leads-within zero k chain o at e = absurd (cc)
leads-within (suc prefix) k chain None at e = absurd (cc)
leads-within (suc prefix) k chain (Some j) at e = slice_get_within chain (suc prefix) j at

-- no plan checks that names a redirect with the target that it has
pub own-target : (w : Window) (horizon : ℕ) (page : PageView) (change : ℕ) (actions : List (ℕ × Action)) (n k : ℕ) → Checks w horizon page change actions
    → slot_at page.slots n ≡ Some (Redirect k) → ¬ (action_of actions n ≡ Some (action.Redirect k))
own-target w horizon page change actions n k c at e = by (c.others n (action.Redirect k) e)
  where
    by : IsAccounted w page.slots n (action.Redirect k) → ⊥
    by (IsAccounted.lost l f) = let u = (lost-from w page.slots n (action.Redirect k) f).0 in absurd (cc)
    by (IsAccounted.of_root root chain o) = ⊎_elim
        (λ same.
        let f = c.prefixes root o.starts chain o.is_chain in
        let leads = sym f.1.leads ∙ ap (action_of actions) (sym same) ∙ e in
        let within = leads-within f.0 k chain (slice_get chain f.0) refl leads in
        let start = slice_get-get_or chain 0 0 (omega arith) in
        let first = redirect-first page.slots root k (get_or chain 0 0) (ap (slot_at page.slots) (sym same) ∙ at) (sym o.is_chain.start ∙ start) in
        prefix-target root f.0 k (get_or chain 0 0) chain (slice_get chain f.0) o.is_chain.distinct start refl leads (sym first))
        (λ holds.
        let p = place-of n chain holds in
        let v = member-version (has_aborted w) page.slots root chain p.0 o.is_chain p.1 in
        let normal = slot_at-from_version_at page.slots n v.version (ap (version_at page.slots) (sym p.2) ∙ v.there) in
        let f : Some (Normal v.version) ≡ Some (Redirect k) = sym normal ∙ at in
        absurd (cc))
        o.holds
