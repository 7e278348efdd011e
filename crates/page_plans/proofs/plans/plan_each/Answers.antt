use Rattle.std.proofs.Common.{subst, sym, ◌∙◌, arith}
use Rattle.std.proofs.lemmas.List.{length-map}
use Rattle.page_views.specs.View.{page_behind, pages_behind}
use Rattle.page_plans.specs.Plans.{IsPlanOfPage}
use Rattle.page_plans.proofs.Zipping.{zipped-at}
use Rattle.page_plans.proofs.plans.plan_each.Goals as goal

pub returns : goal.returns
returns g c =
    let kept = c.par_for_each_mut.auto.s in
    let IsPlan = IsPlanOfPage c.args.statuses.now c.args.horizon.0 in
    zipped-at IsPlan (pages_behind c.args.pages.now) c.par_for_each_mut.new.s (kept ∙ c.requires ∙ sym (length-map c.args.pages.now page_behind))
    (λ i d lt page at.
    let left = (c.par_for_each_mut.ensures i d (omega (lt, kept, arith))).1 in
    subst (IsPlan page) left.left (left.call page at))
