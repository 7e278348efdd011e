use Rattle.std.proofs.Common.{arith}
use Rattle.session_steps.proofs.NextRowsSteps.{puts-refused, none-put, some-put}
use Rattle.session_steps.proofs.engine.SessionEngine.next_rows.Goals as goal

pub returns-in-Err : goal.returns-in-Err
returns-in-Err c = puts-refused c.args.self.now c.args.s c.args.places.now c.in-Err.refusal c.in-Err.ensures

pub returns-then-count-gt0 : goal.returns-then-count-gt0
returns-then-count-gt0 c =
    some-put c.args.self.now c.args.s c.in-Ok.found.0.now c.args.places.now c.put-count.result.0 c.put-count.new.places c.in-Ok.ensures.1 c.in-Ok.ensures.2
    c.in-Ok.found.1 c.put-count.result.1 c.in-Ok.ensures.3 c.put-count.ensures c.move_cursor.new.self (omega (arith, c.if-count-gt0.true)) c.requires c.fact_few.ensures c.move_cursor.ensures

pub returns-else-count-gt0 : goal.returns-else-count-gt0
returns-else-count-gt0 c =
    none-put c.args.self.now c.args.s c.in-Ok.found.0.now c.args.places.now c.put-count.result.0 c.put-count.new.places c.in-Ok.ensures.1 c.in-Ok.ensures.2
    c.in-Ok.found.1 c.put-count.result.1 c.in-Ok.ensures.3 c.put-count.ensures c.requires (omega (arith, c.if-count-gt0.false))
