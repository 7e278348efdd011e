use Rattle.std.proofs.Common.{◌∙◌, Result, ap, subst}
use Rattle.calls.specs.Words.{RowToWrite}
use Rattle.calls.specs.declared.step.Step.TheVariants as step
use Rattle.calls.specs.declared.reply.Refusal.{Refusal}
use Rattle.session_steps.specs.declared.outcome.Ack.{Ack}
use Rattle.session_steps.specs.Writes.{worded}
use Rattle.session_steps.specs.Replies.{reply_to}
use Rattle.c_handles.specs.declared.held.Held.{Held}
use Rattle.sandpiper_c.specs.declared.writes.WriteKind.{WriteKind}
use Rattle.sandpiper_c.specs.Calls.{write_of}
use Rattle.c_handles.specs.CallStatus.{number_of_status}
use Rattle.sandpiper_c.specs.Rows.{text_within}
use Rattle.sandpiper_c.proofs.WritesLemmas.{Answered, by-arm}
use Rattle.sandpiper_c.proofs.writes.held_write.Goals as goal
use Rattle.sandpiper_c.proofs.writes.held_write.Goals.{in-Insert, in-Update}

pub returns : goal.returns
returns c =
    let same = ap worded c.fill.ensures in
    let P : WriteKind → Result Ack Refusal → Held → Type 0 = λ kind answer held. Answered c.args.held.now (write_of kind c.args.session (text_within c.args.row.now)) (reply_to answer) held in
    let does : P c.args.kind c.match-kind.answer c.match-kind.held = elim c.match-kind.branch [
      | in-Insert w ↦ (let after : Held = record { engine = w.insert-answer.new.self; reply = c.args.held.now.reply; row = c.fill.new.row } in
          by-arm P w.in-Insert.is w.answer-is w.held-is (subst (λ (text : RowToWrite). Answered c.args.held.now (step.Insert c.args.session text) (reply_to w.insert-answer.result) after) same
          (w.insert-answer.ensures.follows, w.insert-answer.ensures.exact)))
      | in-Update w ↦ (let after : Held = record { engine = w.update-answer.new.self; reply = c.args.held.now.reply; row = c.fill.new.row } in
          by-arm P w.in-Update.is w.answer-is w.held-is (subst (λ (text : RowToWrite). Answered c.args.held.now (step.Update c.args.session text) (reply_to w.update-answer.result) after) same
          (w.update-answer.ensures.follows, w.update-answer.ensures.exact)))
    ] in
    (reply_to c.match-kind.answer, record { follows = does.0; exact = does.1; status = c.number.ensures ∙ ap number_of_status c.of_answer.ensures })
