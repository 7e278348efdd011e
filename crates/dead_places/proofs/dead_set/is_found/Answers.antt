use Rattle.std.proofs.Common.{◌↔◌, IsTrue, Contains, sym, subst}
use Rattle.dead_places.proofs.PlaceLemmas.{search_tells}
use Rattle.dead_places.proofs.dead_set.is_found.Goals as goal

pub returns : goal.returns
returns c =
    subst (λ is. IsTrue is ↔ Contains c.args.tids.now c.args.tid) (sym c.is_ok.ensures.value)
    (search_tells c.args.tids.now c.args.tid c.search.result c.search.ensures.found c.search.ensures.absent)
