use Rattle.std.proofs.Common.{◌≤◌, ℕ, List, length, arith, sym, subst, ◌∙◌}
use Rattle.prune_actions.specs.declared.Action.{Action}
use Rattle.prune.specs.Marks.{ListsDoubtful}
use Rattle.prune.specs.Checks.{Checks}
use Rattle.prune.specs.Pruning.{IsPlan}
use Rattle.prune.proofs.Stays.{stays-none}
use Rattle.prune.proofs.Idle.{idle-plan}
use Rattle.prune.proofs.Glancing.{listed-doubtful}
use Rattle.prune.proofs.PlanChecks.{plan-checks}
use Rattle.prune.proofs.planning.plan.Goals as goal

pub list_actions-requires-clause-doubtful : goal.list_actions-requires-clause-doubtful
list_actions-requires-clause-doubtful c =
    subst (λ (xs : List ℕ). ListsDoubtful c.args.statuses.now c.args.horizon.0 c.args.page.now.slots xs) (sym c.as_slice.ensures.value)
    (listed-doubtful c.args.statuses.now c.args.horizon.0 c.args.page.now.slots c.list_doubtful.new.doubtful.items c.list_doubtful.ensures)

pub returns-then-not-is_empty-clause-checks : goal.returns-then-not-is_empty-clause-checks
returns-then-not-is_empty-clause-checks c = λ unshared.
    let items = c.list_actions.new.actions.items in
    subst (λ (k : ℕ). Checks c.args.statuses.now c.args.horizon.0 c.args.page.now k items) (sym c.change.ensures)
    (plan-checks c.args.statuses.now c.args.horizon.0 c.args.page.now items unshared c.list_actions.ensures.exact)

pub returns-else-not-is_empty-clause-exact : goal.returns-else-not-is_empty-clause-exact
returns-else-not-is_empty-clause-exact c =
    let w = c.args.statuses.now in
    let horizon = c.args.horizon.0 in
    let slots = c.args.page.now.slots in
    let few : length slots ≤ 291 = omega (arith, c.slots-limit.ensures.count, c.slots-limit.ensures.limit) in
    subst (λ (xs : List (ℕ × Action)). IsPlan w horizon slots xs) (sym c.new.ensures)
    (idle-plan w horizon slots few
    (stays-none w horizon slots c.list_doubtful.new.doubtful.items (sym c.is_empty.ensures ∙ c.if-not-is_empty.false)
    (listed-doubtful w horizon slots c.list_doubtful.new.doubtful.items c.list_doubtful.ensures)))
