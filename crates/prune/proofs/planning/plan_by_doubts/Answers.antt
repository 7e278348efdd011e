use Rattle.std.proofs.Common.{ℕ, refl, sym, subst}
use Rattle.prune.specs.Checks.{Checks}
use Rattle.prune.proofs.PlanChecks.{plan-checks}
use Rattle.prune.proofs.planning.plan_by_doubts.Goals as goal

pub returns-then-not-list_by_one_doubt-clause-checks : goal.returns-then-not-list_by_one_doubt-clause-checks
returns-then-not-list_by_one_doubt-clause-checks c = λ unshared.
    let items = c.list_by_all_doubts.new.actions.items in
    subst (λ (k : ℕ). Checks c.args.statuses.now c.args.horizon.0 c.args.page.now k items) (sym c.change-plan.ensures)
    (plan-checks c.args.statuses.now c.args.horizon.0 c.args.page.now items unshared c.list_by_all_doubts.ensures.exact)

pub returns-else-not-list_by_one_doubt-clause-checks : goal.returns-else-not-list_by_one_doubt-clause-checks
returns-else-not-list_by_one_doubt-clause-checks c = λ unshared.
    let items = c.list_by_one_doubt.new.actions.items in
    subst (λ (k : ℕ). Checks c.args.statuses.now c.args.horizon.0 c.args.page.now k items) (sym c.change-plan.ensures)
    (plan-checks c.args.statuses.now c.args.horizon.0 c.args.page.now items unshared (c.if-not-list_by_one_doubt.ensures.exact refl))
