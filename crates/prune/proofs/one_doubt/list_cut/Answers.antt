use Rattle.std.proofs.Common.{◌≤◌, ℕ, List, length, arith, sym, subst}
use Rattle.prune_actions.specs.declared.Action.{Action}
use Rattle.prune.specs.Actions.{CanApply}
use Rattle.prune.specs.Pruning.{IsPlan}
use Rattle.prune.proofs.OnlyDoubt.{second-can, second-plan}
use Rattle.prune.proofs.one_doubt.list_cut.Goals as goal

pub returns-clause-can_apply : goal.returns-clause-can_apply
returns-clause-can_apply c =
    let w = c.args.statuses.now in
    let slots = c.args.page.now.slots in
    let few : length slots ≤ 291 = omega (arith, c.slots-limit.ensures.count, c.slots-limit.ensures.limit) in
    subst (λ (xs : List (ℕ × Action)). CanApply (length slots) xs) (sym c.list_both.ensures)
    (second-can w c.args.horizon.0 slots c.args.start few c.requires.known c.args.root c.next_in_chain-next.result c.first_action-action.result c.requires.dead c.requires.only
    (sym c.next_in_chain-next.ensures.value) (sym c.first_action-action.ensures))

pub returns-clause-exact : goal.returns-clause-exact
returns-clause-exact c =
    let w = c.args.statuses.now in
    let slots = c.args.page.now.slots in
    let few : length slots ≤ 291 = omega (arith, c.slots-limit.ensures.count, c.slots-limit.ensures.limit) in
    subst (λ (xs : List (ℕ × Action)). IsPlan w c.args.horizon.0 slots xs) (sym c.list_both.ensures)
    (second-plan w c.args.horizon.0 slots c.args.start few c.requires.known c.args.root c.next_in_chain-next.result c.first_action-action.result c.requires.dead c.requires.only
    (sym c.next_in_chain-next.ensures.value) (sym c.first_action-action.ensures))
