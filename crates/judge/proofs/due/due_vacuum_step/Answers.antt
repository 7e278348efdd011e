use Rattle.std.proofs.Common.{sym, ◌∙◌}
use Rattle.calls.specs.declared.reply.Reply.TheVariants as reply
use Rattle.calls.specs.declared.vacuum.Piece.TheVariants as piece
use Rattle.judge.proofs.due.due_vacuum_step.Goals as goal

pub returns-then-has_vacuum : goal.returns-then-has_vacuum
returns-then-has_vacuum c = (reply.Worked (piece.Heap 0), sym c.has_vacuum.ensures ∙ c.if-has_vacuum.true, tt)

pub returns-else-has_vacuum : goal.returns-else-has_vacuum
returns-else-has_vacuum c = (sym c.has_vacuum.ensures ∙ c.if-has_vacuum.false, λ x. x)
