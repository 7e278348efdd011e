use Rattle.std.proofs.Common.{◌≡◌, take}
use Rattle.c_views.specs.Actions.{with_actions}
use Rattle.c_views.proofs.plan.put_actions.Given as goal

abbrev pub invariant-loop-number : goal.invariant-loop-number
invariant-loop-number l = l.places ≡ with_actions (take l.number l.actions) l.fn.places
