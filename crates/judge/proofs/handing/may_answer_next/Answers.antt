use Rattle.calls.specs.declared.step.Step.TheVariants as step
use Rattle.calls.specs.declared.reply.Reply.TheVariants as reply
use Rattle.plain_cursor.specs.Hands.{cursor_of}
use Rattle.plain_history.specs.Plain.{world_of}
use Rattle.judge.proofs.Rows.{hands_iff, next_refused}
use Rattle.judge.proofs.Allowing.{by_due}
use Rattle.judge.proofs.handing.may_answer_next.Goals as goal

pub returns-in-Ok : goal.returns-in-Ok
returns-in-Ok c = hands_iff (world_of c.args.plain.now) c.args.s c.args.n (cursor_of c.in-Ok.cursor.now) c.args.reply.now c.may_hand.result c.requires c.in-Ok.ensures.ok c.may_hand.ensures

pub returns-in-Err : goal.returns-in-Err
returns-in-Err c =
    let w = world_of c.args.plain.now in
    by_due w (step.Next c.args.s c.args.n) (reply.Refused c.in-Err.why) c.args.reply.now c.same_reply.result c.requires (next_refused w c.args.s c.args.n c.in-Err.why c.in-Err.ensures.err) c.same_reply.ensures
