use Rattle.std.proofs.Common.{◌≤◌, ℕ, List, length, arith, sym, subst, ◌∙◌}
use Rattle.prune_actions.specs.declared.Action.{Action}
use Rattle.prune.specs.Marks.{ListsDoubtful}
use Rattle.prune.specs.Pruning.{IsPlan}
use Rattle.prune.proofs.Stays.{stays-none}
use Rattle.prune.proofs.Idle.{idle-plan}
use Rattle.prune.proofs.Glancing.{listed-doubtful}
use Rattle.prune.proofs.planning.list_by_all_doubts.Goals as goal

pub list_actions-requires-clause-doubtful : goal.list_actions-requires-clause-doubtful
list_actions-requires-clause-doubtful c =
    subst (λ (xs : List ℕ). ListsDoubtful c.args.statuses.now c.args.horizon.0 c.args.page.now.slots xs) (sym c.as_slice-then-not-is_empty.ensures.value)
    (listed-doubtful c.args.statuses.now c.args.horizon.0 c.args.page.now.slots c.list_by_doubts.new.doubtful.items c.list_by_doubts.ensures)

pub returns-else-not-is_empty-clause-exact : goal.returns-else-not-is_empty-clause-exact
returns-else-not-is_empty-clause-exact c =
    let w = c.args.statuses.now in
    let horizon = c.args.horizon.0 in
    let slots = c.args.page.now.slots in
    let few : length slots ≤ 291 = omega (arith, c.slots-limit.ensures.count, c.slots-limit.ensures.limit) in
    subst (λ (xs : List (ℕ × Action)). IsPlan w horizon slots xs) (sym c.requires.blank)
    (idle-plan w horizon slots few
    (stays-none w horizon slots c.list_by_doubts.new.doubtful.items (sym c.is_empty.ensures ∙ c.if-not-is_empty.false)
    (listed-doubtful w horizon slots c.list_by_doubts.new.doubtful.items c.list_by_doubts.ensures)))
