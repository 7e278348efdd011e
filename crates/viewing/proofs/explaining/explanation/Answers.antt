use Rattle.viewing.proofs.ExplainingLemmas.{on_looks}
use Rattle.viewing.proofs.explaining.explanation.Goals as goal

pub returns : goal.returns
returns c =
    let looks = rw c.as_slice.ensures.value at c.entry_looks.ensures in
    on_looks c.entry_looks.result (λ v. v.items) c.args.engine.now.engine.core c.args.s c.args.key _ c.in_ok-places.ensures looks
