use Rattle.judge.proofs.Reasoning.{not_of}
use Rattle.judge.proofs.why.rule_of_view.Goals as goal

pub returns-then-reads_by_statement : goal.returns-then-reads_by_statement
returns-then-reads_by_statement c = c.reads_by_statement.ensures.0 c.if-reads_by_statement.true

pub returns-else-reads_by_statement : goal.returns-else-reads_by_statement
returns-else-reads_by_statement c = not_of c.reads_by_statement.result c.if-reads_by_statement.false c.reads_by_statement.ensures
