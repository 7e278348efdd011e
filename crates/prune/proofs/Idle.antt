-- Slots of which no chain holds a dead version, and pages that hold none: pruning does nothing to them.
use Rattle.std.proofs.Common.{◌≡◌, ◌⊎◌, ℕ, zero, suc, ◌+◌, ◌<◌, ◌≤◌, ◌==◌, Bool, true, false, nat_eq, if◌then◌else◌, List, [], length, Some, None, arith, inl, inr, ⊎_elim, sym, ◌∙◌, refl, subst}
use Rattle.std.specs.List.{list_any}
use Rattle.std.proofs.lemmas.Bool.{cases_lt, cases_Bool}
use Rattle.page_sheet.specs.declared.slot.Slot.{Slot}
use Rattle.page_slots.specs.View.{PageView}
use Rattle.commit_status.specs.Window.{Window}
use Rattle.visibility.specs.Visible.{IsDead}
use Rattle.hot_chain.specs.Chain.{has_aborted, is_root, LeadsTo}
use Rattle.hot_chain.proofs.Chains.{leads-by, root-there}
use Rattle.prune_actions.specs.declared.Action.TheVariants as action
use Rattle.sound_page.specs.Dead.{IsDeadAt, HasDead}
use Rattle.sound_page.proofs.ChainPlaces.{place-of, root-plain}
use Rattle.prune.specs.Marks.{NoneDead, IsSpared}
use Rattle.prune.specs.Cutting.{IsCutCount}
use Rattle.prune.specs.Pruning.{orphan_action, chain_action, IsInChainOf, PrunesSlot, by_root, by_none, IsPlan}
use Rattle.prune.specs.Laws.{IsPrunedPage}
use Rattle.prune.proofs.Removing.{by-answer, lost-from}
use Rattle.sound_page.proofs.SoundChains.{chain-exists}

-- a root below a bound whose chain holds the slot, if there is one
record SomeRoot (aborted : ℕ → Bool) (slots : List Slot) (n : ℕ) : Type 0 where
  root : ℕ
  leads : LeadsTo aborted slots root n

abbrev NoRoot : (ℕ → Bool) → List Slot → ℕ → ℕ → Type 0
NoRoot aborted slots n bound = (root : ℕ) → root < bound → LeadsTo aborted slots root n → ⊥

leads-or_not : (aborted : ℕ → Bool) (slots : List Slot) (n root : ℕ) → length slots ≤ 291 → LeadsTo aborted slots root n ⊎ (LeadsTo aborted slots root n → ⊥)
leads-or_not aborted slots n root few = ⊎_elim
    (λ starts.
    let some = chain-exists aborted slots root few in
    ⊎_elim
    (λ t. inl ((leads-by aborted slots root n some.chain true starts some.is t).0 refl))
    (λ f. inr (λ l. let g : false ≡ true = (leads-by aborted slots root n some.chain false starts some.is f).1 l in cc))
    (cases_Bool (list_any (nat_eq n) some.chain)))
    (λ none. inr (λ l. let starts = l.starts in cc))
    (cases_Bool (is_root slots root))

some-or_none : (aborted : ℕ → Bool) (slots : List Slot) (n bound : ℕ) → length slots ≤ 291 → SomeRoot aborted slots n ⊎ NoRoot aborted slots n bound
some-or_none aborted slots n zero few = inr (λ root h l. absurd (omega arith))
some-or_none aborted slots n (suc bound) few = ⊎_elim (λ some. inl some)
    (λ none. ⊎_elim (λ l. inl (record { root = bound; leads = l }))
    (λ not. inr (λ root h l. ⊎_elim (λ lt. none root lt l)
    (λ ge. let same : root ≡ bound = omega arith in not (subst (λ r. LeadsTo aborted slots r n) same l)) (cases_lt root bound)))
    (leads-or_not aborted slots n bound few))
    (some-or_none aborted slots n bound few)

none-cut : (w : Window) (horizon : ℕ) (slots : List Slot) (chain : List ℕ) → NoneDead w horizon slots chain → IsCutCount w horizon slots chain 0
none-cut w horizon slots chain none = record {
  within = omega arith;
  dead = λ h. absurd (omega arith);
  none_after = λ j a b dead. none j b dead;
}

nothing-done : (root : ℕ) (chain : List ℕ) (n : ℕ) → None ≡ chain_action root chain 0 n
nothing-done root chain n = by (n == root)
  where
    by : (b : Bool) → None ≡ (if b then None else (if false then Some action.Unuse else None))
    by true = refl
    by false = refl

-- only a dead version goes from a slot that no chain reaches
pub nothing-lost : (w : Window) (horizon : ℕ) (slots : List Slot) (n : ℕ) → ¬ IsDeadAt w horizon slots n → orphan_action w slots n ≡ None
nothing-lost w horizon slots n alive = by-answer (orphan_action w slots n) (λ is. is)
    (λ a is. let lost = (lost-from w slots n a is).1 in
    absurd (alive (record { version = lost.version; there = lost.there; dead = IsDead.never_was lost.thawed lost.aborted })))

nothing-rooted : (w : Window) (slots : List Slot) (n : ℕ) → is_root slots n ≡ true → orphan_action w slots n ≡ None
nothing-rooted w slots n starts = by-answer (orphan_action w slots n) (λ is. is)
    (λ a is. let lost = (lost-from w slots n a is).1 in
    let plain = root-plain slots n lost.version starts lost.there in
    let heap_only = lost.heap_only in
    absurd (cc))

-- What pruning does to a slot of which no chain holds a dead version: it goes only where no chain reaches it.
pub spared-does : (w : Window) (horizon : ℕ) (slots : List Slot) (n : ℕ) → length slots ≤ 291 → IsSpared w horizon slots n → PrunesSlot w horizon slots n (orphan_action w slots n)
spared-does w horizon slots n few none = ⊎_elim
    (λ starts.
    let some = chain-exists (has_aborted w) slots n few in
    let i : IsInChainOf (has_aborted w) slots n some.chain n = record { starts = starts; is_chain = some.is; holds = inl refl } in
    by_root n some.chain 0 i (none-cut w horizon slots some.chain (none n some.chain i)) (nothing-rooted w slots n starts ∙ nothing-done n some.chain n))
    (λ no_root. ⊎_elim
    (λ some.
    let l = some.leads in
    let i : IsInChainOf (has_aborted w) slots some.root l.chain n = record { starts = l.starts; is_chain = l.is_chain; holds = inr l.holds } in
    let alive : ¬ IsDeadAt w horizon slots n = λ dead.
    let p = place-of n l.chain l.holds in
    none some.root l.chain i p.0 p.1 (subst (IsDeadAt w horizon slots) (sym p.2) dead) in
    by_root some.root l.chain 0 i (none-cut w horizon slots l.chain (none some.root l.chain i)) (nothing-lost w horizon slots n alive ∙ nothing-done some.root l.chain n))
    (λ unreached.
    by_none (record { no_root = no_root; unreached = λ root l. let there = (root-there slots root l.starts).1 in unreached root (omega arith) l }) refl)
    (some-or_none (has_aborted w) slots n (length slots + 1) few))
    (cases_Bool (is_root slots n))

idle-does : (w : Window) (horizon : ℕ) (slots : List Slot) (n : ℕ) → length slots ≤ 291 → (HasDead w horizon slots → ⊥) → PrunesSlot w horizon slots n None
idle-does w horizon slots n few none =
    subst (PrunesSlot w horizon slots n) (nothing-lost w horizon slots n (λ dead. none (record { number = n; dead = dead })))
    (spared-does w horizon slots n few (λ root chain i j within dead. none (record { number = _; dead = dead })))

-- the empty plan is exact
pub idle-plan : (w : Window) (horizon : ℕ) (slots : List Slot) → length slots ≤ 291 → (HasDead w horizon slots → ⊥) → IsPlan w horizon slots []
idle-plan w horizon slots few none = record { in_order = tt; exact = λ n there. idle-does w horizon slots n few none }

-- and the page is pruned already
pub idle-page : (w : Window) (horizon : ℕ) (page : PageView) → length page.slots ≤ 291 → (HasDead w horizon page.slots → ⊥) → IsPrunedPage w horizon page page
idle-page w horizon page few none = record { actions = []; plan = idle-plan w horizon page.slots few none; is = refl }
