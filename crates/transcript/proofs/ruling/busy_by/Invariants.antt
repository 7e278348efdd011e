use Rattle.std.proofs.Common.{ℕ, ◌<◌}
use Rattle.calls.specs.declared.reply.Reply.TheVariants as reply
use Rattle.calls.specs.declared.reply.Refusal.TheVariants as refusal
use Rattle.refinement.specs.Allowed.{AllowsReply}
use Rattle.plain_history.specs.Plain.{world_of}
use Rattle.transcript.proofs.ruling.busy_by.Given as goal

-- by no session before s is it allowed
abbrev pub invariant-loop-s : goal.invariant-loop-s
invariant-loop-s l = (t : ℕ) → t < l.s → ¬ AllowsReply (world_of l.judge) l.step (reply.Refused (refusal.Busy t))
