use Rattle.calls.specs.declared.step.Step.TheVariants as step
use Rattle.calls.specs.declared.reply.Reply.TheVariants as reply
use Rattle.plain_history.specs.Plain.{world_of}
use Rattle.judge.proofs.Rows.{shows_iff, page_refused}
use Rattle.judge.proofs.Allowing.{by_due}
use Rattle.judge.proofs.handing.may_answer_page.Goals as goal

pub returns-in-Ok : goal.returns-in-Ok
returns-in-Ok c =
    let may = c.in-Ok.ensures.ok in
    shows_iff (world_of c.args.plain.now) c.args.s c.args.page may.0 c.args.reply.now c.may_show.result c.requires may.1 (c.may_show.ensures may.0 may.1)

pub returns-in-Err : goal.returns-in-Err
returns-in-Err c =
    let w = world_of c.args.plain.now in
    by_due w (step.TakePage c.args.s c.args.page) (reply.Refused c.in-Err.why) c.args.reply.now c.same_reply.result c.requires (page_refused w c.args.s c.args.page c.in-Err.why c.in-Err.ensures.err) c.same_reply.ensures
