use Rattle.std.proofs.Common.{◌≡◌, ◌≤◌, length, take, vec_len, vec_capacity}
use Rattle.session_core.specs.Runs.{RepliesLead}
use Rattle.session_core.proofs.engine.Engine.replies_to.Given as goal

-- the steps so far led here, and each that is left has its place
abbrev pub invariant-loop-step : goal.invariant-loop-step
invariant-loop-step l = RepliesLead l.initial.self (take l.step-index l.steps) l.replies.items l.self × (vec_len l.replies ≡ l.step-index) × (length l.steps ≤ vec_capacity l.replies)
