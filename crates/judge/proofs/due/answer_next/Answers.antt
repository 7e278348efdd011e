use Rattle.std.proofs.Common.{sym, subst}
use Rattle.calls.specs.declared.step.Step.TheVariants as step
use Rattle.calls.specs.declared.reply.Reply.{Reply}
use Rattle.refinement.specs.Allowed.{AllowsReply}
use Rattle.plain_cursor.specs.Hands.{cursor_of}
use Rattle.plain_history.specs.Plain.{world_of}
use Rattle.judge.proofs.Rows.{next_refused}
use Rattle.judge.proofs.Reasoning.{not_of}
use Rattle.judge.proofs.due.answer_next.Goals as goal

pub returns-then-is_over : goal.returns-then-is_over
returns-then-is_over c = let may = c.in-Ok.ensures.ok in (may.0, cursor_of c.in-Ok.cursor.now, may.1, may.2, c.is_over.ensures.0 c.if-is_over.true)

pub returns-else-is_over : goal.returns-else-is_over
returns-else-is_over c =
    let may = c.in-Ok.ensures.ok in
    subst (λ (a : Reply). AllowsReply (world_of c.args.plain.now) (step.Next c.args.s c.args.n) a) (sym c.no_memory.ensures)
    (may.0, cursor_of c.in-Ok.cursor.now, may.1, may.2, not_of c.is_over.result c.if-is_over.false c.is_over.ensures)

pub returns-in-Err : goal.returns-in-Err
returns-in-Err c = (next_refused (world_of c.args.plain.now) c.args.s c.args.n c.in-Err.why c.in-Err.ensures.err).0
