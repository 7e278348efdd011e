use Rattle.viewing.proofs.ExplainingLemmas.{looks-next, looks-all}
use Rattle.viewing.proofs.explaining.entry_looks.Goals as goal

pub loop-place-preserved : goal.loop-place-preserved
loop-place-preserved c = looks-next _ _ _ _ (record { page = 0; slot = 0 }) _ _ _ c.loop-place-test.true c.loop-place.invariant c.in_ok-look.ensures.place c.in_ok-look.ensures.look c.in_ok-push_item.ensures.added

pub returns : goal.returns
returns c = looks-all _ _ _ _ _ c.loop-place-test.false c.loop-place.invariant
