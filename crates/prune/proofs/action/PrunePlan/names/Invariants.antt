use Rattle.std.proofs.Common.{◌≡◌, drop}
use Rattle.prune.specs.Actions.{action_of}
use Rattle.prune.proofs.action.PrunePlan.names.Given as goal

abbrev pub invariant-loop-action : goal.invariant-loop-action
invariant-loop-action l = action_of l.self.actions.items l.slot ≡ action_of (drop l.action-index l.self.actions.items) l.slot
