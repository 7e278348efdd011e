use Rattle.std.proofs.Common.{[], ◌∷◌, if◌then◌else◌}
use Rattle.prune.proofs.Single.{single-cut}
use Rattle.prune.proofs.marks.mark_root.Goals as goal

pub returns-in-Some : goal.returns-in-Some
returns-in-Some c = record {
  chain = c.in-Some.start ∷ [];
  cut = if c.in-Some.is_dead then 1 else 0;
  is_chain = c.in-Some.ensures.is_chain;
  is_cut = single-cut c.args.statuses.now c.args.horizon.0 c.args.page.now.slots c.in-Some.start c.in-Some.is_dead c.in-Some.ensures.is_dead;
  each = c.mark_single.ensures;
}
