use Rattle.std.proofs.Common.{sym}
use Rattle.transcript.proofs.RulingLemmas.{by_busy, no_reply, by_reply}
use Rattle.transcript.proofs.ruling.judge_answer.Goals as goal

pub returns-in-Ok : goal.returns-in-Ok
returns-in-Ok c =
    let test = rw c.as_slice.ensures at c.if-eq.ensures in
    by_busy _ _ _ c.args.answer.now c.in-Ok.verdict (sym test) c.in-Ok.ensures

pub returns-in-Ok-None : goal.returns-in-Ok-None
returns-in-Ok-None c =
    let test = rw c.as_slice.ensures at c.if-eq.ensures in
    let none = rw c.in-Ok-None.field-0-is at c.in-Ok-None.ensures in
    no_reply c.args.answer.now (sym test) none

pub returns-in-Ok-judge_reply : goal.returns-in-Ok-judge_reply
returns-in-Ok-judge_reply c =
    let test = rw c.as_slice.ensures at c.if-eq.ensures in
    let spells = rw c.in-Ok-Some.field-0-is at c.in-Ok-Some.ensures in
    by_reply _ _ _ c.args.answer.now _ c.in-Ok-judge_reply.verdict (sym test) spells c.in-Ok-judge_reply.ensures
