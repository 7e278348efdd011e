-- Pruning, and a plan that checks, take a prefix of each chain of a sound page.
use Rattle.std.proofs.Common.{◌≡◌, ◌⊎◌, ℕ, ◌<◌, ◌≤◌, true, false, List, length, get_or, Option, Some, None, IsSome, arith, inl, inr, ⊎_elim, sym, ap, ◌∙◌, refl, subst}
use Rattle.std.specs.Option.{option_map}
use Rattle.std.proofs.lemmas.Bool.{cases_lt, cases_Bool}
use Rattle.page_sheet.specs.declared.slot.Slot.{Slot}
use Rattle.page_slots.specs.View.{PageView}
use Rattle.page_sheet.specs.Slots.{slot_at, version_at, SlotIsThere}
use Rattle.tuple_header.specs.Version.{Version}
use Rattle.tuple_header.specs.Marks.{is_heap_only}
use Rattle.commit_status.specs.Window.{Window}
use Rattle.hot_chain.specs.Chain.{has_aborted, is_root, IsChain}
use Rattle.hot_chain.proofs.Chains.{root-there}
use Rattle.prune_actions.specs.declared.Action.{Action}
use Rattle.prune_actions.specs.declared.Action.TheVariants as action
use Rattle.prune.specs.Actions.{acted, applied, action_of}
use Rattle.prune.specs.Checks.{IsPrefix, HasPrefix, IsAccounted, Checks}
use Rattle.prune.specs.Cutting.{RemovesVersions}
use Rattle.prune.specs.Pruning.{IsInChainOf, PrunesSlot, by_root, by_none, IsPruned}
use Rattle.prune.specs.Thinning.{IsShortened, IsThinned, StaysOrGoes}
use Rattle.sound_page.specs.Links.{NoSharedSlots}
use Rattle.sound_page.specs.Sound.{SoundPage}
use Rattle.sound_page.proofs.Links.{member-there, member-version}
use Rattle.sound_page.proofs.ChainPlaces.{place-of, at-place, root-leads}
use Rattle.sound_page.proofs.SoundChains.{plain-root, sound-unshared}
use Rattle.prune.proofs.Unshared.{does-by}
use Rattle.prune.proofs.Removing.{by-answer, lost-from, pruned-removes}
use Rattle.prune.proofs.Listing.{applied-slot, applied-count}
use Rattle.prune.proofs.PlanChecks.{root-count, plan-prefix}
use Rattle.prune.proofs.CheckLemmas.{checks-removes}

not-some : (o : Option Action) → ¬ IsSome o → o ≡ None
not-some None none = refl
not-some (Some a) none = absurd (none refl)

-- What is done to each slot, where of each chain a prefix is named, and every other slot that is named goes as it may.
module _ (w : Window) (horizon : ℕ) (slots after : List Slot) (named : ℕ → Option Action) (unshared : NoSharedSlots (has_aborted w) slots)
    (prefixes : (root : ℕ) → is_root slots root ≡ true → HasPrefix w horizon slots named root) (accounts : (n : ℕ) (a : Action) → named n ≡ Some a → IsAccounted w slots n a)
    (does : (n : ℕ) → SlotIsThere slots n → slot_at after n ≡ acted (slot_at slots n) (named n)) where
  shortened : (root : ℕ) (chain : List ℕ) → is_root slots root ≡ true → (is : IsChain (has_aborted w) slots root chain) → (prefix : ℕ) → IsPrefix w horizon slots named root chain prefix
      → IsShortened w horizon slots after root chain prefix
  shortened root chain starts is prefix f = record {
    within = f.within;
    cut = f.cut;
    leads = does root (root-there slots root starts) ∙ ap (acted (slot_at slots root)) f.leads;
    gone = λ i h off. gone i h off;
    kept = λ i le h. does (get_or chain i 0) (member-there (has_aborted w) slots root chain i is h)
        ∙ ap (acted (slot_at slots (get_or chain i 0))) (not-some (named (get_or chain i 0)) (λ some. let lt = (f.removed i h).0 some in absurd (omega arith)));
  }
    where
      gone : (i : ℕ) → i < prefix → ¬ (get_or chain i 0 ≡ root) → slot_at after (get_or chain i 0) ≡ acted (slot_at slots (get_or chain i 0)) (Some action.Unuse)
      gone i h off =
          let within : i < length chain = (let l = f.within in omega arith) in
          let v = member-version (has_aborted w) slots root chain i is within in
          does (get_or chain i 0) (member-there (has_aborted w) slots root chain i is within)
          ∙ ap (acted (slot_at slots (get_or chain i 0)))
          (⊎_elim
          (λ heap_only. f.unused i v.version.header h (ap (option_map (λ t. t.header)) v.there) heap_only)
          (λ plain.
          let holds = at-place (get_or chain i 0) chain i within refl in
          let itself = root-leads (has_aborted w) slots root (get_or chain i 0) chain is (plain-root slots (get_or chain i 0) v.version v.there plain) holds in
          absurd (off (unshared (get_or chain i 0) root (get_or chain i 0) itself (record { starts = starts; chain = chain; is_chain = is; holds = holds }))))
          (cases_Bool (is_heap_only v.version.header)))

  stays-or-goes : (n : ℕ) → SlotIsThere slots n → is_root slots n ≡ false → StaysOrGoes slots after n
  stays-or-goes n there off = by-answer (named n)
      (λ none. StaysOrGoes.stays (does n there ∙ ap (acted (slot_at slots n)) none))
      (λ a some. by a some (accounts n a some))
    where
      unused : named n ≡ Some action.Unuse → (t : Version) → version_at slots n ≡ Some t → StaysOrGoes slots after n
      unused is t at = StaysOrGoes.goes t at (does n there ∙ ap (acted (slot_at slots n)) is)

      by : (a : Action) → named n ≡ Some a → IsAccounted w slots n a → StaysOrGoes slots after n
      by a some (IsAccounted.lost l f) = let z = lost-from w slots n a f in unused (some ∙ ap Some z.0) z.1.version z.1.there
      by a some (IsAccounted.of_root root chain o) = ⊎_elim
          (λ same. let e : false ≡ true = sym off ∙ ap (is_root slots) same ∙ o.starts in absurd (cc))
          (λ holds.
          let q = place-of n chain holds in
          let v = member-version (has_aborted w) slots root chain q.0 o.is_chain q.1 in
          let at : version_at slots n ≡ Some v.version = ap (version_at slots) (sym q.2) ∙ v.there in
          let f = prefixes root o.starts chain o.is_chain in
          let before = (f.1.removed q.0 q.1).0 (subst (λ k. IsSome (named k)) (sym q.2) (subst IsSome (sym some) refl)) in
          ⊎_elim
          (λ heap_only. unused (ap named (sym q.2) ∙ f.1.unused q.0 v.version.header before (ap (option_map (λ t. t.header)) v.there) heap_only) v.version at)
          (λ plain. let e : false ≡ true = sym off ∙ plain-root slots n v.version at plain in absurd (cc))
          (cases_Bool (is_heap_only v.version.header)))
          o.holds

  thins : length after ≡ length slots → RemovesVersions w horizon slots after → IsThinned w horizon slots after
  thins count removes = record {
    count = count;
    removes = removes;
    chains = λ root chain starts is. let f = prefixes root starts chain is in (f.0, shortened root chain starts is f.0 f.1);
    others = stays-or-goes;
  }

pub checked-thins : (w : Window) (horizon : ℕ) (page : PageView) (change : ℕ) (actions : List (ℕ × Action)) → SoundPage w page.slots → Checks w horizon page change actions
    → IsThinned w horizon page.slots (applied actions page).slots
checked-thins w horizon page change actions sound c = thins w horizon page.slots (applied actions page).slots (action_of actions) (sound-unshared w page.slots sound)
    c.prefixes c.others (λ n there. applied-slot 0 actions page c.in_order n) (applied-count actions page) (checks-removes w horizon page change actions c)

-- Pruning.

module _ (w : Window) (horizon : ℕ) (slots after : List Slot) (p : IsPruned w horizon slots after) where
  -- what is done to a slot, if it is on the page
  abbrev answer_by : (n : ℕ) → (n < 1) ⊎ (1 ≤ n) → (length slots < n) ⊎ (n ≤ length slots) → Option Action
  answer_by n (inl low) high = None
  answer_by n (inr low) (inl high) = None
  answer_by n (inr low) (inr high) = (p.each n (low, high)).answer

  abbrev named : ℕ → Option Action
  named n = answer_by n (cases_lt n 1) (cases_lt (length slots) n)

  named-does : (n : ℕ) → SlotIsThere slots n → PrunesSlot w horizon slots n (named n) × (slot_at after n ≡ acted (slot_at slots n) (named n))
  named-does n there = by (cases_lt n 1) (cases_lt (length slots) n)
    where
      by : (a : (n < 1) ⊎ (1 ≤ n)) (b : (length slots < n) ⊎ (n ≤ length slots)) → PrunesSlot w horizon slots n (answer_by n a b) × (slot_at after n ≡ acted (slot_at slots n) (answer_by n a b))
      by (inl low) b = absurd (let h = there.0 in omega arith)
      by (inr low) (inl high) = absurd (let h = there.1 in omega arith)
      by (inr low) (inr high) = let each = p.each n (low, high) in (each.does, each.is)

  named-there : (n : ℕ) (a : Action) → named n ≡ Some a → SlotIsThere slots n
  named-there n a is = by (cases_lt n 1) (cases_lt (length slots) n) is
    where
      by : (x : (n < 1) ⊎ (1 ≤ n)) (y : (length slots < n) ⊎ (n ≤ length slots)) → answer_by n x y ≡ Some a → SlotIsThere slots n
      by (inl low) y e = absurd (cc)
      by (inr low) (inl high) e = absurd (cc)
      by (inr low) (inr high) e = (low, high)

  accounted : (n : ℕ) (a : Action) (o : Option Action) → PrunesSlot w horizon slots n o → o ≡ Some a → IsAccounted w slots n a
  accounted n a o (by_root root chain cut i c e) is = IsAccounted.of_root root chain i
  accounted n a o (by_none l e) is = IsAccounted.lost l (sym e ∙ is)

  named-prefix : NoSharedSlots (has_aborted w) slots → (root : ℕ) → is_root slots root ≡ true → HasPrefix w horizon slots named root
  named-prefix unshared root starts chain is =
      let of : IsInChainOf (has_aborted w) slots root chain root = record { starts = starts; is_chain = is; holds = inl refl } in
      let c = root-count w horizon slots root chain (named root) unshared of (named-does root (root-there slots root starts)).0 in (
        c.cut,
        plan-prefix w horizon slots named root c.cut chain starts is c.is
            (λ n o there. does-by w horizon slots n root c.cut chain (named n) unshared o c.is (named-does n there).0),
      )

  pub pruned-thins : SoundPage w slots → IsThinned w horizon slots after
  pruned-thins sound =
      let unshared = sound-unshared w slots sound in
      thins w horizon slots after named unshared (named-prefix unshared) (λ n a is. accounted n a (named n) (named-does n (named-there n a is)).0 is)
      (λ n there. (named-does n there).1) p.count (pruned-removes w horizon slots after p)
