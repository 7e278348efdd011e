use Rattle.std.proofs.Common.{◌≡◌, ℕ, ◌+◌, ◌||◌, Bool, ◌∷◌, drop, get_or, sym, ap, ◌∙◌, subst}
use Rattle.prune_actions.specs.declared.Action.{Action}
use Rattle.prune_actions.specs.declared.Action.TheVariants as action
use Rattle.prune.specs.Actions.{applied, made_by}
use Rattle.page_sheet.specs.Slots.{is_unused, bytes_taken, the_slot}
use Rattle.prune.proofs.Listing.{prefix-of}
use Rattle.prune.proofs.RoomLemmas.{IsReckoned, made-used, number-there, reckoned-start, reckoned-step}
use Rattle.prune.proofs.room.room_after.Goals.{then-has_unused, else-has_unused+in-Unuse, else-has_unused+in_default}
use Rattle.prune.proofs.room.room_after.Goals as goal

pub loop-action-init : goal.loop-action-init
loop-action-init c =
    let plan = c.requires.planned in
    reckoned-start plan.0 plan.1 c.args.plan.now.actions.items c.args.page.now c.free_bytes-free_bytes.result _ plan.2 c.requires.can_apply
    c.free_bytes-free_bytes.ensures.all (number-there c.args.page.now.slots c.free_number.result c.slots.result c.free_number.ensures.value c.slots.ensures.count)

pub loop-action-preserved : goal.loop-action-preserved
loop-action-preserved c =
    let items = c.args.plan.now.actions.items in
    let listed = c.as_slice-action-items.result.now in
    let same : listed ≡ items = c.as_slice-action-items.ensures.value in
    let before = c.args.page.now in
    let after = applied items before in
    let free : ℕ = c.loop-action.free_bytes in
    let found : Bool = c.loop-action.has_unused in
    let i : ℕ = c.loop-action.action-index in
    let x : ℕ × Action = get_or listed i (0, action.Unuse) in
    let was : IsReckoned (x ∷ drop (i + 1) listed) before after free found =
    subst (λ l. IsReckoned l before after free found) (ap (drop i) (sym same) ∙ prefix-of listed i (0, action.Unuse) c.loop-action-test.true) c.loop-action.invariant in
    let is = reckoned-step x (drop (i + 1) listed) before after free found was in
    let taken : bytes_taken (the_slot before.slots x.0) ≡ c.version_size-free_bytes.result = sym c.version_size-free_bytes.ensures in
    let unused : (found || is_unused (made_by x.1)) ≡ c.if-has_unused.has_unused =
    elim c.if-has_unused.branch [
      | then-has_unused w ↦ ap (λ b. b || is_unused (made_by x.1)) w.if-has_unused.true ∙ sym w.if-has_unused.true ∙ sym w.has_unused-is
      | else-has_unused+in-Unuse w ↦ ap (λ b. b || is_unused (made_by x.1)) w.if-has_unused.false
          ∙ ap (λ a. is_unused (made_by a)) w.in-Unuse.is ∙ sym w.has_unused-is
      | else-has_unused+in_default w ↦ ap (λ b. b || is_unused (made_by x.1)) w.if-has_unused.false
          ∙ made-used x.1 w.in_default.not-Unuse ∙ sym w.has_unused-is
    ] in
    subst (λ l. IsReckoned l before after (free + c.version_size-free_bytes.result) c.if-has_unused.has_unused) (ap (drop (i + 1)) same)
    (subst (λ (n : ℕ). IsReckoned (drop (i + 1) listed) before after (free + n) c.if-has_unused.has_unused) taken
    (subst (λ (b : Bool). IsReckoned (drop (i + 1) listed) before after (free + bytes_taken (the_slot before.slots x.0)) b) unused is))
