use Rattle.std.proofs.Common.{◌≡◌, Some, map}
use Rattle.script_text.specs.Reading.{actions_of}
use Rattle.script_text.proofs.plan.actions.Given as goal

-- what is done by the words so far
abbrev pub invariant-loop-word : goal.invariant-loop-word
invariant-loop-word l = actions_of (map (λ x. x.now) l.yielded) ≡ Some l.actions.items
