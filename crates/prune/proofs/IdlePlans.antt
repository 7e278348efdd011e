-- What a plan that checks leaves as it is.
use Rattle.std.proofs.Common.{◌≡◌, ℕ, ◌<◌, true, false, List, get_or, Some, None, IsSome, ⊎_elim, sym, ap, ◌∙◌, refl, subst, slice_get, arith}
use Rattle.std.specs.Option.{option_and_then}
use Rattle.std.proofs.lemmas.Option.{none-some}
use Rattle.page_sheet.specs.declared.slot.Slot.TheVariants.{Dead}
use Rattle.page_slots.specs.View.{PageView}
use Rattle.page_sheet.specs.Slots.{slot_at, version_at, version_of}
use Rattle.commit_status.specs.Window.{Window}
use Rattle.visibility.specs.Visible.{IsDead}
use Rattle.hot_chain.specs.Chain.{has_aborted, is_root, is_root_in}
use Rattle.prune_actions.specs.declared.Action.{Action}
use Rattle.prune.specs.Actions.{acted, applied, action_of}
use Rattle.prune.specs.Checks.{IsAccounted, Checks}
use Rattle.sound_page.specs.Dead.{IsDeadAt}
use Rattle.sound_page.proofs.Links.{member-version}
use Rattle.sound_page.proofs.ChainPlaces.{place-of}
use Rattle.prune.proofs.Listing.{applied-slot, applied-count}
use Rattle.prune.proofs.Removing.{by-answer, lost-from, root-cut}
use Rattle.prune.proofs.Unshared.{same-by_slots}

module _ (w : Window) (horizon : ℕ) (page : PageView) (change : ℕ) (actions : List (ℕ × Action)) (c : Checks w horizon page change actions) where
  -- where a slot is named, a version on the page is dead
  named-dead : (n : ℕ) (a : Action) → action_of actions n ≡ Some a → (k : ℕ) × IsDeadAt w horizon page.slots k
  named-dead n a e = by (c.others n a e)
    where
      by : IsAccounted w page.slots n a → (k : ℕ) × IsDeadAt w horizon page.slots k
      by (IsAccounted.lost l f) = let z = (lost-from w page.slots n a f).1 in
          (n, record { version = z.version; there = z.there; dead = IsDead.never_was z.thawed z.aborted })
      by (IsAccounted.of_root root chain o) =
          let f = c.prefixes root o.starts chain o.is_chain in
          let some : 0 < f.0 = ⊎_elim
          (λ same. root-cut f.0 (slice_get chain f.0) a (sym f.1.leads ∙ ap (action_of actions) (sym same) ∙ e))
          (λ holds.
          let p = place-of n chain holds in
          let before = (f.1.removed p.0 p.1).0 (subst (λ k. IsSome (action_of actions k)) (sym p.2) (subst IsSome (sym e) refl)) in
          omega arith)
          o.holds in
          let d = f.1.cut 0 some in (get_or chain d.0 0, d.3)

  -- where none is, the slots stay
  pub checked-idle : ((k : ℕ) → ¬ IsDeadAt w horizon page.slots k) → (applied actions page).slots ≡ page.slots
  checked-idle alive = same-by_slots page.slots (applied actions page).slots page.slots (applied-count actions page) refl (λ n there.
      applied-slot 0 actions page c.in_order n ∙ by-answer (action_of actions n)
      (λ none. ap (acted (slot_at page.slots n)) none)
      (λ a some. let dead = named-dead n a some in absurd (alive dead.0 dead.1)))

  -- a dead slot stays dead
  pub checked-dead : (n : ℕ) → slot_at page.slots n ≡ Some Dead → slot_at (applied actions page).slots n ≡ Some Dead
  checked-dead n at = applied-slot 0 actions page c.in_order n ∙ by-answer (action_of actions n)
      (λ none. ap (acted (slot_at page.slots n)) none ∙ at)
      (λ a some. absurd (by a (c.others n a some)))
    where
      empty : version_at page.slots n ≡ None
      empty = ap (option_and_then version_of) at

      by : (a : Action) → IsAccounted w page.slots n a → ⊥
      by a (IsAccounted.lost l f) = let z = (lost-from w page.slots n a f).1 in none-some z.version (sym empty ∙ z.there)
      by a (IsAccounted.of_root root chain o) = ⊎_elim
          (λ same. let off : false ≡ true = ap is_root_in (sym at) ∙ ap (is_root page.slots) same ∙ o.starts in cc)
          (λ holds.
          let q = place-of n chain holds in
          let v = member-version (has_aborted w) page.slots root chain q.0 o.is_chain q.1 in
          none-some v.version (sym empty ∙ ap (version_at page.slots) (sym q.2) ∙ v.there))
          o.holds
