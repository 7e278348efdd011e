use Rattle.std.proofs.Common.{sym, ◌∙◌, arith}
use Rattle.plain_history.specs.Plain.{world_of}
use Rattle.plain_history.proofs.Sessions.{nobody_wrote}
use Rattle.judge.proofs.Reasoning.{made_before, not_of}
use Rattle.judge.proofs.expect.of_making.Goals as goal

pub returns-then-column-gt3 : goal.returns-then-column-gt3
returns-then-column-gt3 c = (c.if-column-gt3.true, λ x. x)

pub returns-then-not-lacks_index : goal.returns-then-not-lacks_index
returns-then-not-lacks_index c = made_before (world_of c.args.plain.now) c.args.column (omega (arith, c.if-column-gt3.false)) (not_of c.lacks_index.result c.if-not-lacks_index.true c.lacks_index.ensures)

pub returns-then-has_vacuum : goal.returns-then-has_vacuum
returns-then-has_vacuum c = ((c.lacks_index.ensures.0 c.if-not-lacks_index.false, sym c.has_vacuum.ensures ∙ c.if-has_vacuum.true), λ x. x)

pub returns-then-has_anyone_written : goal.returns-then-has_anyone_written
returns-then-has_anyone_written c =
    ((c.lacks_index.ensures.0 c.if-not-lacks_index.false, sym c.has_vacuum.ensures ∙ c.if-has_vacuum.false, c.has_anyone_written.ensures.0 c.if-has_anyone_written.true), λ x. x)

pub returns-else-has_anyone_written : goal.returns-else-has_anyone_written
returns-else-has_anyone_written c = (
  (omega (arith, c.if-column-gt3.false), λ lacks. nobody_wrote (world_of c.args.plain.now) c.has_anyone_written.result c.has_anyone_written.ensures.1 c.if-has_anyone_written.false),
  λ lacks. sym c.has_vacuum.ensures ∙ c.if-has_vacuum.false,
)
