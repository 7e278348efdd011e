use Rattle.std.proofs.Common.{ap, ◌∙◌}
use Rattle.page_slots.specs.View.{PageView}
use Rattle.prune.proofs.Listing.{applied-flag}
use Rattle.prune.proofs.Planned.{plan-pruned}
use Rattle.prune.proofs.Removing.{pruned-removes, pruned-keeps_roots}
use Rattle.prune.proofs.Unseen.{removed-keeps_found}
use Rattle.prune.proofs.Spared.{pruned-none_dead}
use Rattle.prune.proofs.applying.prune.Goals as goal

pub returns-clause-pruned : goal.returns-clause-pruned
returns-clause-pruned c = plan-pruned c.args.statuses.now c.args.horizon.0 c.args.page.now c.prune_by_plan.new.page c.prune_by_plan.ensures

pub returns-clause-removes : goal.returns-clause-removes
returns-clause-removes c =
    pruned-removes c.args.statuses.now c.args.horizon.0 c.args.page.now.slots c.prune_by_plan.new.page.slots
    (plan-pruned c.args.statuses.now c.args.horizon.0 c.args.page.now c.prune_by_plan.new.page c.prune_by_plan.ensures)

pub returns-clause-roots : goal.returns-clause-roots
returns-clause-roots c = λ apart.
    pruned-keeps_roots c.args.statuses.now c.args.horizon.0 c.args.page.now.slots c.prune_by_plan.new.page.slots apart
    (plan-pruned c.args.statuses.now c.args.horizon.0 c.args.page.now c.prune_by_plan.new.page c.prune_by_plan.ensures)

pub returns-clause-flag : goal.returns-clause-flag
returns-clause-flag c = ap (λ (p : PageView). p.flag) c.prune_by_plan.ensures.is ∙ applied-flag c.prune_by_plan.ensures.actions c.args.page.now

pub returns-clause-never_seen : goal.returns-clause-never_seen
returns-clause-never_seen c = λ sound.
    removed-keeps_found c.args.statuses.now c.args.horizon.0 c.args.page.now.slots c.prune_by_plan.new.page.slots sound
    (pruned-removes c.args.statuses.now c.args.horizon.0 c.args.page.now.slots c.prune_by_plan.new.page.slots
    (plan-pruned c.args.statuses.now c.args.horizon.0 c.args.page.now c.prune_by_plan.new.page c.prune_by_plan.ensures))

pub returns-clause-none_dead : goal.returns-clause-none_dead
returns-clause-none_dead c = λ sound.
    pruned-none_dead c.args.statuses.now c.args.horizon.0 c.args.page.now.slots c.prune_by_plan.new.page.slots sound
    (plan-pruned c.args.statuses.now c.args.horizon.0 c.args.page.now c.prune_by_plan.new.page c.prune_by_plan.ensures)
