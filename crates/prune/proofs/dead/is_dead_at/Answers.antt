use Rattle.std.proofs.Common.{refl, sym, ◌∙◌}
use Rattle.prune.proofs.Cuts.{dead-there}
use Rattle.prune.proofs.dead.is_dead_at.Goals as goal

pub returns-in-Dead : goal.returns-in-Dead
returns-in-Dead c = (
  λ t. dead-there c.args.statuses.now c.args.horizon.0 c.args.page.now.slots c.args.number _ (sym c.header.ensures.value ∙ c.in-Some.is) (c.fate_of.ensures.0 c.in-Dead.is),
  λ d. refl,
)
