use Rattle.plain_history.specs.Plain.{world_of}
use Rattle.judge.proofs.Rows.{page_refused}
use Rattle.judge.proofs.due.answer_page.Goals as goal

pub returns-in-Ok : goal.returns-in-Ok
returns-in-Ok c = c.in-Ok.ensures.ok

pub returns-in-Err : goal.returns-in-Err
returns-in-Err c = (page_refused (world_of c.args.plain.now) c.args.s c.args.page c.in-Err.why c.in-Err.ensures.err).0
