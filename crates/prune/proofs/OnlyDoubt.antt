-- Pages on which one version alone is not plain: what pruning does to them.
use Rattle.std.proofs.Common.{◌≡◌, ◌≢◌, ◌⊎◌, ℕ, ◌+◌, ◌<◌, ◌≤◌, ◌==◌, true, false, nat_eq, if◌then◌else◌, List, [], ◌∷◌, length, take, get_or, Option, Some, None, arith, inl, inr, ⊎_elim, sym, ap, ◌∙◌, refl, subst, slice_get}
use Rattle.std.specs.List.{list_any, Contains}
use Rattle.std.specs.Option.{option_map}
use Rattle.std.proofs.lemmas.Bool.{cases_Bool, cases_eq, eq-eqb, ne_eqb, cond-true, cond-false, false_from_ne_true}
use Rattle.page_sheet.specs.declared.slot.Slot.{Slot}
use Rattle.page_sheet.specs.Slots.{header_at}
use Rattle.tuple_header.specs.Version.{Version}
use Rattle.commit_status.specs.Window.{Window}
use Rattle.space_maps.specs.Hints.{AddsDoubt}
use Rattle.hot_chain.specs.Chain.{has_aborted, first_of, next_in_chain, IsChain}
use Rattle.hot_chain.proofs.Chains.{chain-one, distinct-places, any-contains, contains-any, root-there}
use Rattle.prune_actions.specs.declared.Action.{Action}
use Rattle.prune_actions.specs.declared.Action.TheVariants as action
use Rattle.sound_page.specs.Dead.{IsDeadAt, HasDead}
use Rattle.sound_page.proofs.Links.{version-there}
use Rattle.sound_page.proofs.ChainPlaces.{place-of, at-place, place-in_front, in_front-place, chain-first}
use Rattle.prune.specs.declared.one_doubt.SlotsOfKind.TheVariants.{NoSlot, One}
use Rattle.prune.specs.Actions.{CanApply, action_of}
use Rattle.prune.specs.Cutting.{IsCutCount}
use Rattle.prune.specs.Pruning.{root_action, chain_action, orphan_action, IsInChainOf, PrunesSlot, by_root, IsPlan}
use Rattle.prune.specs.Marks.{NoneDead, IsSpared}
use Rattle.prune.specs.Glances.{IsPlainAt, ArePlainBut, AreDoubts}
use Rattle.prune.specs.OneDoubt.{BeginsIn, AreThose, second_of, first_cut}
use Rattle.prune.proofs.Passed.{kept-alive}
use Rattle.prune.proofs.Idle.{spared-does, nothing-lost}
use Rattle.prune.proofs.Stays.{stays-none_dead}
use Rattle.prune.proofs.Glancing.{starts-stays}
use Rattle.prune.proofs.Doubting.{plain-there}
use Rattle.prune.proofs.Planned.{does-has_target}
use Rattle.prune.proofs.FirstCut.{NamesBoth, names-both}
use Rattle.prune.proofs.Seconds.{chain-by_second}

pub one-alone : (n m : ℕ) → Contains (n ∷ []) m → m ≡ n
one-alone n m c =
    let p = place-of m (n ∷ []) c in
    let at : p.0 ≡ 0 = (let within = p.1 in omega arith) in
    sym p.2 ∙ ap (λ i. get_or (n ∷ []) i 0) at

plain-alive : (w : Window) (horizon : ℕ) (slots : List Slot) (n : ℕ) → IsPlainAt w slots n → ¬ IsDeadAt w horizon slots n
plain-alive w horizon slots n plain dead =
    let h = dead.version.header in
    let p = plain h (ap (option_map (λ (t : Version). t.header)) dead.there) in
    kept-alive w horizon h.xmin.0 h p.1 refl p.0 dead.dead

module _ (w : Window) (horizon : ℕ) (slots : List Slot) (n : ℕ) (few : length slots ≤ 291) (known : ArePlainBut w slots (n ∷ [])) where
  other-plain : (m : ℕ) → m ≢ n → IsPlainAt w slots m
  other-plain m other = plain-there w slots (n ∷ []) m known (λ c. other (one-alone n m c))

  other-alive : (m : ℕ) → m ≢ n → ¬ IsDeadAt w horizon slots m
  other-alive m other = plain-alive w horizon slots m (other-plain m other)

  -- where it is not dead, none is
  pub alive-all : ¬ IsDeadAt w horizon slots n → HasDead w horizon slots → ⊥
  alive-all alive has = ⊎_elim
      (λ same. alive (subst (IsDeadAt w horizon slots) same has.dead))
      (λ other. other-alive has.number other has.dead)
      (cases_eq has.number n)

  -- a chain that begins elsewhere holds no dead version
  elsewhere-none : (root : ℕ) (chain : List ℕ) → IsChain (has_aborted w) slots root chain → first_of slots root ≢ Some n → NoneDead w horizon slots chain
  elsewhere-none root chain is off = stays-none_dead w horizon slots root chain
      (starts-stays w horizon slots root (λ start first. other-plain start (λ same. off (first ∙ ap Some same)))) is

  -- it is dead, and no root leads to it

  module _ (dead : IsDeadAt w horizon slots n) (none : AreThose (BeginsIn slots n) NoSlot) where
    all-spared : (m : ℕ) → IsSpared w horizon slots m
    all-spared m root chain i = elsewhere-none root chain i.is_chain (λ first. none root (record { starts = i.starts; first = first }))

    all-does : (m : ℕ) → PrunesSlot w horizon slots m (orphan_action w slots m)
    all-does m = spared-does w horizon slots m few (all-spared m)

    other-none : (m : ℕ) → m ≢ n → orphan_action w slots m ≡ None
    other-none m other = nothing-lost w horizon slots m (other-alive m other)

    pub orphan-stays : orphan_action w slots n ≡ None → IsPlan w horizon slots []
    orphan-stays stays = record {
      in_order = tt;
      exact = λ m there. subst (PrunesSlot w horizon slots m)
          (⊎_elim (λ same. ap (orphan_action w slots) same ∙ stays) (λ other. other-none m other) (cases_eq m n)) (all-does m);
    }

    pub orphan-can : (a : Action) → orphan_action w slots n ≡ Some a → CanApply (length slots) ((n, a) ∷ [])
    orphan-can a goes =
        let there = version-there slots n dead.version dead.there in
        (record { there = there.0; within = there.1; target = does-has_target w horizon slots n (orphan_action w slots n) a (all-does n) goes }, tt)

    pub orphan-goes : (a : Action) → orphan_action w slots n ≡ Some a → IsPlan w horizon slots ((n, a) ∷ [])
    orphan-goes a goes = record {
      in_order = (let there = version-there slots n dead.version dead.there in ((let from = there.0 in omega arith), there.1, tt));
      exact = λ m there. subst (PrunesSlot w horizon slots m)
          (⊎_elim
          (λ same. ap (orphan_action w slots) same ∙ goes ∙ sym (cond-true (n == m) (Some a) None (eq-eqb n m (sym same))))
          (λ other. other-none m other ∙ sym (cond-false (n == m) (Some a) None (ne_eqb n m (λ e. other (sym e)))))
          (cases_eq m n)) (all-does m);
    }

  -- it is dead, and one root leads to it

  module _ (root : ℕ) (chain : List ℕ) (a : Action) (dead : IsDeadAt w horizon slots n) (only : AreThose (BeginsIn slots n) (One root)) (is : IsChain (has_aborted w) slots root chain) (becomes : root_action 1 (slice_get chain 1) ≡ Some a) where
    begins : (0 < length chain) × (get_or chain 0 0 ≡ n)
    begins = chain-first (has_aborted w) slots root n chain is only.0.first

    one-cut : IsCutCount w horizon slots chain 1
    one-cut = record {
      within = (let some = begins.0 in omega arith);
      dead = λ some. subst (IsDeadAt w horizon slots) (sym begins.1) dead;
      none_after = λ j after within. other-alive (get_or chain j 0)
          (λ same. distinct-places chain 0 j is.distinct (omega arith) within (begins.1 ∙ sym same));
    }

    in-it : (m : ℕ) → (m ≡ root) ⊎ Contains chain m → IsInChainOf (has_aborted w) slots root chain m
    in-it m holds = record { starts = only.0.starts; is_chain = is; holds = holds }

    root-does : PrunesSlot w horizon slots root (Some a)
    root-does = by_root root chain 1 (in-it root (inl refl)) one-cut
        (sym becomes ∙ sym (cond-true (root == root) (root_action 1 (slice_get chain 1)) (if list_any (nat_eq root) (take 1 chain) then Some action.Unuse else None) (eq-eqb root root refl)))

    off-root : (m : ℕ) → m ≢ root → chain_action root chain 1 m ≡ (if list_any (nat_eq m) (take 1 chain) then Some action.Unuse else None)
    off-root m off = cond-false (m == root) (root_action 1 (slice_get chain 1)) (if list_any (nat_eq m) (take 1 chain) then Some action.Unuse else None) (ne_eqb m root off)

    start-does : n ≢ root → PrunesSlot w horizon slots n (Some action.Unuse)
    start-does off = by_root root chain 1 (in-it n (inr (at-place n chain 0 begins.0 begins.1))) one-cut
        (sym (off-root n off ∙ cond-true (list_any (nat_eq n) (take 1 chain)) (Some action.Unuse) None
        (in_front-place n 1 0 chain (let some = begins.0 in omega arith) (omega arith) begins.1)))

    not-in_front : (m : ℕ) → m ≢ n → list_any (nat_eq m) (take 1 chain) ≡ false
    not-in_front m other = false_from_ne_true (list_any (nat_eq m) (take 1 chain)) (λ t.
        let p = place-in_front m 1 chain (let some = begins.0 in omega arith) t in
        let at : p.0 ≡ 0 = (let lt = p.1 in omega arith) in
        other (sym p.2 ∙ ap (λ i. get_or chain i 0) at ∙ begins.1))

    unheld-spared : (m : ℕ) → m ≢ root → list_any (nat_eq m) chain ≡ false → IsSpared w horizon slots m
    unheld-spared m off unheld r held i = elsewhere-none r held i.is_chain (λ first.
        let same : r ≡ root = only.1 r (record { starts = i.starts; first = first }) in
        let chains : held ≡ chain = chain-one (has_aborted w) slots root held chain (subst (λ k. IsChain (has_aborted w) slots k held) same i.is_chain) is in
        ⊎_elim
        (λ here. off (here ∙ same))
        (λ holds. absurd (let t = contains-any m chain (subst (λ c. Contains c m) chains holds) in let e : true ≡ false = sym t ∙ unheld in cc))
        i.holds)

    other-does : (m : ℕ) → m ≢ root → m ≢ n → PrunesSlot w horizon slots m None
    other-does m off other = ⊎_elim
        (λ held. by_root root chain 1 (in-it m (inr (any-contains m chain held))) one-cut
        (sym (off-root m off ∙ cond-false (list_any (nat_eq m) (take 1 chain)) (Some action.Unuse) None (not-in_front m other))))
        (λ unheld. subst (PrunesSlot w horizon slots m) (nothing-lost w horizon slots m (other-alive m other))
        (spared-does w horizon slots m few (unheld-spared m off unheld)))
        (cases_Bool (list_any (nat_eq m) chain))

    both : NamesBoth (length slots) root n a (first_cut root n a)
    both = names-both (length slots) root n a (root-there slots root only.0.starts) (version-there slots n dead.version dead.there)
        (does-has_target w horizon slots root (Some a) a root-does refl)

    cut-can : CanApply (length slots) (first_cut root n a)
    cut-can = both.can

    cut-plan : IsPlan w horizon slots (first_cut root n a)
    cut-plan = record {
      in_order = both.in_order;
      exact = λ m there. ⊎_elim
          (λ same. subst (λ k. PrunesSlot w horizon slots k (action_of (first_cut root n a) k)) (sym same)
          (subst (PrunesSlot w horizon slots root) (sym both.at_root) root-does))
          (λ off. ⊎_elim
          (λ same. subst (λ k. PrunesSlot w horizon slots k (action_of (first_cut root n a) k)) (sym same)
          (subst (PrunesSlot w horizon slots n) (sym (both.at_start (λ e. off (same ∙ e)))) (start-does (λ e. off (same ∙ e)))))
          (λ other. subst (PrunesSlot w horizon slots m) (sym (both.elsewhere m off other)) (other-does m off other))
          (cases_eq m n))
          (cases_eq m root);
    }

  -- the same by where the chain goes on from there

  module _ (root : ℕ) (next : Option ℕ) (a : Action) (dead : IsDeadAt w horizon slots n) (only : AreThose (BeginsIn slots n) (One root)) (goes_on : next_in_chain (has_aborted w) slots n ≡ next) (becomes : root_action 1 (second_of n next) ≡ Some a) where
    held : (chain : List ℕ) × IsChain (has_aborted w) slots root chain × (slice_get chain 1 ≡ second_of n next)
    held = chain-by_second w slots root n next only.0.first goes_on other-plain

    pub second-can : CanApply (length slots) (first_cut root n a)
    second-can = cut-can root held.0 a dead only held.1 (ap (root_action 1) held.2 ∙ becomes)

    pub second-plan : IsPlan w horizon slots (first_cut root n a)
    second-plan = cut-plan root held.0 a dead only held.1 (ap (root_action 1) held.2 ∙ becomes)

-- The only doubt.

-- of the first so many of these slots each is 0 or this one, or its version is plain
abbrev pub IsOnlyUpTo : Window → List Slot → List ℕ → ℕ → ℕ → Type 0
IsOnlyUpTo w slots numbers upto only = (k : ℕ) → k < upto → get_or numbers k 0 ≢ 0 → get_or numbers k 0 ≢ only → IsPlainAt w slots (get_or numbers k 0)

-- the next one is passed over
pub only-more : (w : Window) (slots : List Slot) (numbers : List ℕ) (i only : ℕ) → (get_or numbers i 0 ≢ 0 → get_or numbers i 0 ≢ only → IsPlainAt w slots (get_or numbers i 0))
    → IsOnlyUpTo w slots numbers i only → IsOnlyUpTo w slots numbers (i + 1) only
only-more w slots numbers i only here before k lt some other = ⊎_elim
    (λ it. let same : get_or numbers k 0 ≡ get_or numbers i 0 = ap (λ j. get_or numbers j 0) it in
    subst (IsPlainAt w slots) (sym same) (here (λ e. some (same ∙ e)) (λ e. other (same ∙ e))))
    (λ off. before k (omega (arith, lt, off)) some other)
    (cases_eq k i)

-- the next one is the first that is not plain
pub only-found : (w : Window) (slots : List Slot) (numbers : List ℕ) (i x : ℕ) → x ≡ get_or numbers i 0 → IsOnlyUpTo w slots numbers i 0
    → IsOnlyUpTo w slots numbers (i + 1) x
only-found w slots numbers i x is before k lt some other = ⊎_elim
    (λ it. absurd (other (ap (λ j. get_or numbers j 0) it ∙ sym is)))
    (λ off. before k (omega (arith, lt, off)) some some)
    (cases_eq k i)

pub only-all : (w : Window) (slots : List Slot) (numbers : List ℕ) (upto only : ℕ) → length numbers ≤ upto → ArePlainBut w slots numbers → IsOnlyUpTo w slots numbers upto only
    → ArePlainBut w slots (only ∷ [])
only-all w slots numbers upto only all known is n t at off = ⊎_elim
    (λ listed.
    let p = place-of n numbers (any-contains n numbers listed) in
    let there = (version-there slots n t at).0 in
    let plain = is p.0 (let within = p.1 in omega (arith, within, all)) (λ e. let zero_is : n ≡ 0 = sym p.2 ∙ e in omega (arith, zero_is, there))
    (λ e. off (0, (omega arith), sym e ∙ p.2)) in
    plain t.header (ap (header_at slots) p.2 ∙ ap (option_map (λ (v : Version). v.header)) at))
    (λ unlisted. known n t at (λ c. absurd (let t = contains-any n numbers c in let e : true ≡ false = sym t ∙ unlisted in cc)))
    (cases_Bool (list_any (nat_eq n) numbers))

-- what is known afterwards
pub one-doubt : (w : Window) (slots : List Slot) (only : ℕ) (zeros : List ℕ) (doubts : Option (List ℕ)) → ArePlainBut w slots (only ∷ []) → AddsDoubt (Some zeros) only doubts
    → AreDoubts w slots doubts
one-doubt w slots only zeros None known adds = tt
one-doubt w slots only zeros (Some numbers) known adds = λ n t at off.
    known n t at (λ c. (adds n (version-there slots n t at).0 off).0 (one-alone only n c))
