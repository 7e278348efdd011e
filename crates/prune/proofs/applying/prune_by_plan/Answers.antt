use Rattle.std.proofs.Common.{◌≤◌, ℕ, List, length, arith, sym, subst, ◌∙◌}
use Rattle.prune.specs.Marks.{ListsDoubtful}
use Rattle.prune.proofs.Idle.{idle-page}
use Rattle.prune.proofs.Stays.{stays-none}
use Rattle.prune.proofs.Glancing.{listed-doubtful}
use Rattle.prune.proofs.applying.prune_by_plan.Goals as goal

pub prune_doubtful-requires : goal.prune_doubtful-requires
prune_doubtful-requires c = record {
  doubtful = subst (λ (xs : List ℕ). ListsDoubtful c.args.statuses.now c.args.horizon.0 c.args.page.now.slots xs) (sym c.as_slice.ensures.value)
      (listed-doubtful c.args.statuses.now c.args.horizon.0 c.args.page.now.slots c.list_doubtful.new.doubtful.items c.list_doubtful.ensures);
}

pub returns-else-not-is_empty : goal.returns-else-not-is_empty
returns-else-not-is_empty c =
    let few : length c.args.page.now.slots ≤ 291 = omega (arith, c.slots-limit.ensures.count, c.slots-limit.ensures.limit) in
    idle-page c.args.statuses.now c.args.horizon.0 c.args.page.now few
    (stays-none c.args.statuses.now c.args.horizon.0 c.args.page.now.slots c.list_doubtful.new.doubtful.items (sym c.is_empty.ensures ∙ c.if-not-is_empty.false)
    (listed-doubtful c.args.statuses.now c.args.horizon.0 c.args.page.now.slots c.list_doubtful.new.doubtful.items c.list_doubtful.ensures))
