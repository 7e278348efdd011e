use Rattle.std.proofs.Common.{arith}
use Rattle.viewing.proofs.ExplainingLemmas.{placed-more, placed-over}
use Rattle.viewing.proofs.explaining.places_of.Goals as goal

pub loop-preserved : goal.loop-preserved
loop-preserved c = placed-more _ _ _ _ _ _ _ _ c.entry_count-end.ensures.ascending c.loop.invariant c.in-Some.is c.in_ok-push_item.ensures.added c.next_entry-next-in-loop.ensures

pub returns : goal.returns
returns c = placed-over _ _ _ _ _ (omega (arith, c.loop-test.false, c.loop.auto.counter-end, c.entry_count-end.ensures.count)) c.loop.invariant
