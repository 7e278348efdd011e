use Rattle.std.proofs.Common.{arith}
use Rattle.viewing.proofs.ExplainingLemmas.{part-next, part-stops, not-barred, not-full}
use Rattle.viewing.proofs.explaining.versions_at.Goals as goal

pub loop-n-preserved : goal.loop-n-preserved
loop-n-preserved c = part-next _ _ _ _ _ _ _ _ _ c.loop-n.invariant c.in-Ok-Some.ensures c.in-Ok-Some.field-0-is c.version_look.ensures.shown c.version_look.ensures.owners c.in_ok-push_item-in-Ok-Some.ensures.added

pub returns-in-Ok-None : goal.returns-in-Ok-None
returns-in-Ok-None c = part-stops _ _ _ _ _ _ c.loop-n.invariant c.in-Ok-None.ensures c.in-Ok-None.field-0-is

pub returns-in-Err : goal.returns-in-Err
returns-in-Err c = λ e here. absurd (not-barred c.args.engine.now.engine.core c.args.s e _ c.requires here c.in-Err.ensures)

pub returns : goal.returns
returns c = not-full _ _ _ _ _ c.fact_few_slots.ensures (omega (arith, c.loop-n-test.false, c.loop-n.auto.n-end)) c.loop-n.invariant
