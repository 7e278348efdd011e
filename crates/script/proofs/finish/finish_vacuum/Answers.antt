use Rattle.std.proofs.Common.{arith}
use Rattle.script.proofs.FinishLemmas.{HasWorked-first, HasWorked-more, finished_by}
use Rattle.script.proofs.finish.finish_vacuum.Goals as goal

pub loop-init : goal.loop-init
loop-init c = HasWorked-first _ _ _ c.step_into.ensures.follows c.step_into.ensures.exact

pub returns-in_default : goal.returns-in_default
returns-in_default c = finished_by _ _ _ _ c.loop.invariant (omega (arith, c.loop-test.true)) (λ piece is. absurd (c.in_default.not-Worked piece is))

pub loop-preserved : goal.loop-preserved
loop-preserved c = HasWorked-more _ _ _ c.in-Worked.field-0 _ _ _ c.loop.invariant c.in-Worked.is c.step_into-in-loop.ensures.follows c.step_into-in-loop.ensures.exact

-- the number of the last step is reached
pub returns : goal.returns
returns c = finished_by _ _ _ _ c.loop.invariant (omega (arith, c.loop.auto.counter-end)) (λ piece is. omega (arith, c.loop-test.false, c.loop.auto.counter-end))
