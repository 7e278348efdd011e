use Rattle.std.proofs.Common.{◌∙◌, Result, ap}
use Rattle.calls.specs.declared.step.Step.{Step}
use Rattle.calls.specs.declared.reply.Refusal.{Refusal}
use Rattle.session_steps.specs.declared.outcome.Ack.{Ack}
use Rattle.session_steps.specs.Replies.{reply_to}
use Rattle.c_handles.specs.declared.held.Held.{Held}
use Rattle.c_handles.specs.CallStatus.{number_of_status}
use Rattle.sandpiper_c.proofs.WritesLemmas.{Answered, by-arm}
use Rattle.sandpiper_c.proofs.steps.held_direct.Goals as goal
use Rattle.sandpiper_c.proofs.steps.held_direct.Goals.{in-Begin, in-Delete, in-Commit, in-Abort}

pub returns : goal.returns
returns c =
    let P : Step → Result Ack Refusal → Held → Type 0 = λ step answer held. Answered c.args.held.now step (reply_to answer) held in
    let does : P c.args.step c.match-step.answer c.match-step.held = elim c.match-step.branch [
      | in-Begin w ↦ by-arm P w.in-Begin.is w.answer-is w.held-is (w.begin-answer.ensures.follows, w.begin-answer.ensures.exact)
      | in-Delete w ↦ by-arm P w.in-Delete.is w.answer-is w.held-is (w.delete-answer.ensures.follows, w.delete-answer.ensures.exact)
      | in-Commit w ↦ by-arm P w.in-Commit.is w.answer-is w.held-is (w.commit-answer.ensures.follows, w.commit-answer.ensures.exact)
      | in-Abort w ↦ by-arm P w.in-Abort.is w.answer-is w.held-is (w.abort-answer.ensures.follows, w.abort-answer.ensures.exact)
    ] in
    (reply_to c.match-step.answer, record { follows = does.0; exact = does.1; status = c.number.ensures ∙ ap number_of_status c.of_answer.ensures })
