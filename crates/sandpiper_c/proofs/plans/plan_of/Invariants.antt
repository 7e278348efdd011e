use Rattle.std.proofs.Common.{◌≡◌, map, take}
use Rattle.sandpiper_c.specs.Plans.{action_in}
use Rattle.sandpiper_c.proofs.plans.plan_of.Given as goal

abbrev pub invariant-loop-place : goal.invariant-loop-place
invariant-loop-place l = l.actions.items ≡ map action_in (take l.place-index l.places)
