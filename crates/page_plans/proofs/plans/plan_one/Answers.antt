use Rattle.std.proofs.Common.{◌∙◌, ap, refl, subst}
use Rattle.page_slots.specs.View.{PageView}
use Rattle.page_plans.specs.Plans.{IsPlanOfPage}
use Rattle.page_plans.proofs.plans.plan_one.Goals as goal

pub returns : goal.returns
returns c =
    let number = c.args.page.now.0 in
    let Planned : PageView → Type 0 = λ page. IsPlanOfPage c.args.statuses.now c.args.horizon.0 (number, page) (number, c.plan.result) in
    subst Planned (c.deref-2.ensures ∙ ap (λ box. box.value) c.deref.ensures)
    (record { number = refl; change = c.plan.ensures.change; exact = c.plan.ensures.exact; checks = c.plan.ensures.checks })
