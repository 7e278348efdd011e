use Rattle.std.proofs.lemmas.Result.{IfOk-weaker}
use Rattle.plain_cursor.specs.Hands.{cursor_of}
use Rattle.plain_history.specs.Plain.{world_of}
use Rattle.calls.specs.declared.step.Step.TheVariants as step
use Rattle.judge.specs.Reasons.{HandsDue, TellsDue}
use Rattle.judge.proofs.Rows.{next_refused}
use Rattle.judge.proofs.Reasoning.{hands_due}
use Rattle.judge.proofs.due.due_next.Goals as goal

pub returns-in-Ok : goal.returns-in-Ok
returns-in-Ok c = IfOk-weaker c.hand.result (HandsDue (cursor_of c.in-Ok.cursor.now) c.args.n) (TellsDue (world_of c.args.plain.now) (step.Next c.args.s c.args.n)) (λ due is. hands_due (world_of c.args.plain.now) c.args.s c.args.n (cursor_of c.in-Ok.cursor.now) due c.in-Ok.ensures.ok is) c.hand.ensures

pub returns-in-Err : goal.returns-in-Err
returns-in-Err c = next_refused (world_of c.args.plain.now) c.args.s c.args.n c.in-Err.why c.in-Err.ensures.err
