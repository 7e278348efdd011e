use Rattle.std.proofs.Common.{Some, sym, ◌∙◌, subst, ap}
use Rattle.std.specs.Option.{option_map}
use Rattle.std.proofs.lemmas.Option.{same_Some, slice_get-map, slice_get-get_or}
use Rattle.page_views.specs.View.{page_behind}
use Rattle.page_plans.specs.Plans.{IsPlanOfPage}
use Rattle.page_plans.proofs.plans.fn.plan_each.par_for_each_mut.Goals as goal

pub returns : goal.returns
returns c page at =
    let pages = c.captures.pages.now in
    let taken = c.index-pages-at.result in
    let there = slice_get-get_or pages c.args.at taken c.requires in
    let found = ap (option_map page_behind) (ap Some c.index-pages-at.is ∙ sym there) ∙ sym (slice_get-map page_behind pages c.args.at) ∙ at in
    subst (λ page. IsPlanOfPage c.captures.statuses.now c.captures.horizon.0 page c.plan_one.result) (same_Some (page_behind taken) page found) c.plan_one.ensures
