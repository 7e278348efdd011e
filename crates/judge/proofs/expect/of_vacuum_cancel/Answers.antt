use Rattle.std.proofs.Common.{sym, ◌∙◌}
use Rattle.judge.proofs.expect.of_vacuum_cancel.Goals as goal

pub returns-then-has_vacuum : goal.returns-then-has_vacuum
returns-then-has_vacuum c = sym c.has_vacuum.ensures ∙ c.if-has_vacuum.true

pub returns-else-has_vacuum : goal.returns-else-has_vacuum
returns-else-has_vacuum c = (sym c.has_vacuum.ensures ∙ c.if-has_vacuum.false, λ x. x)
