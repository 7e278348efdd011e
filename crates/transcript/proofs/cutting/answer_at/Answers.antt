use Rattle.std.proofs.Common.{◌+◌, arith, sym, ◌∙◌}
use Rattle.std.proofs.lemmas.List.{take_rest}
use Rattle.transcript.proofs.CuttingLaws.{passed_none, found_at, passed_at, passed_all}
use Rattle.transcript.proofs.cutting.answer_at.Goals as goal

pub loop-i-init : goal.loop-i-init
loop-i-init c = passed_none c.args.text.now

pub returns-then-ends_at : goal.returns-then-ends_at
returns-then-ends_at c = rw (take_rest c.args.text.now (c.loop-i.i + 1)) (found_at c.args.text.now c.loop-i.i c.loop-i-test.true c.loop-i.invariant (sym c.ends_at.ensures ∙ c.if-ends_at.true))

pub loop-i-preserved : goal.loop-i-preserved
loop-i-preserved c = passed_at c.args.text.now c.loop-i.i c.loop-i-test.true c.loop-i.invariant (sym c.ends_at.ensures ∙ c.if-ends_at.false)

pub returns : goal.returns
returns c = passed_all c.args.text.now c.loop-i.i (omega (arith, c.loop-i-test.false)) c.loop-i.invariant
