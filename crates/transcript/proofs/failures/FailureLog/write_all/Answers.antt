use Rattle.std.proofs.Common.{arith}
use Rattle.std.proofs.lemmas.Grind.{common_steps}
use Rattle.std.proofs.lemmas.List.{take_all}
use Rattle.transcript.proofs.FailureLemmas.{Appends-more, front_written}
use Rattle.transcript.proofs.failures.FailureLog.write_all.Goals as goal

pub loop-written-preserved : goal.loop-written-preserved
loop-written-preserved g c =
    (Appends-more _ _ _ _ _ _ c.loop-written.invariant.0 c.in-Ok.ensures.bytes, grind (arith, common_steps))

pub returns-in-Err-clause-front : goal.returns-in-Err-clause-front
returns-in-Err-clause-front g c =
    front_written _ _ _ _ _ c.loop-written.invariant.0 c.in-Err.ensures.err

pub returns-clause-all : goal.returns-clause-all
returns-clause-all g c = rw (take_all c.loop-written.written c.args.text.now (omega (arith, c.loop-written.invariant.1))) at c.loop-written.invariant.0
