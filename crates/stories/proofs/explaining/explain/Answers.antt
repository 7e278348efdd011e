use Rattle.stories.proofs.ExplainingLemmas.{explained-by, not-explained}
use Rattle.stories.proofs.explaining.explain.Goals as goal

pub returns-in_ok-found-in-Ok : goal.returns-in_ok-found-in-Ok
returns-in_ok-found-in-Ok c =
    let here = c.in-Ok.ensures.1 in
    explained-by _ c.args.engine.now.engine.core c.args.s c.args.key _ _ _ _ here (c.in_ok-found-in-Ok.ensures _ here) (rw c.as_slice.ensures.value at c.sentences.ensures)

pub returns-in-Err : goal.returns-in-Err
returns-in-Err c = not-explained c.args.engine.now.engine.core c.args.s c.args.key _ _ c.in-Err.ensures
