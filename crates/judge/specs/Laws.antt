-- Laws of the judge's words, after every run.
use Rattle.std.specs.Prelude.{List, Bool}
use Rattle.history.specs.World.{beginning}
use Rattle.calls.specs.declared.step.Step.{Step}
use Rattle.calls.specs.declared.reply.Reply.{Reply}
use Rattle.refinement.specs.Allowed.{AllowsReply, IsRun, after}
use Rattle.judge.specs.declared.why.Rule.{Rule}
use Rattle.judge.specs.Reasons.{Breaks}

-- what breaks a rule is not allowed
abbrev pub BrokenIsNotAllowed : Type 0
BrokenIsNotAllowed = (columns : List Bool) (steps : List Step) (replies : List Reply) → IsRun (beginning columns) steps replies
    → (rule : Rule) (step : Step) (reply : Reply) → Breaks rule (after (beginning columns) steps replies) step reply
    → ¬ AllowsReply (after (beginning columns) steps replies) step reply
