use Rattle.std.proofs.Common.{subst}
use Rattle.root_index.specs.View.{IndexView}
use Rattle.index_entries.specs.Sets.{IsAfter, IsLeast}
use Rattle.root_index.proofs.SoundLemmas.{ascending_there, least_found}
use Rattle.root_index.proofs.index.Index.next_after.Goals as goal

pub position_after-position-requires-clause-ascending : goal.position_after-position-requires-clause-ascending
position_after-position-requires-clause-ascending g c = ascending_there c.self.inside.trees.items c.deref.result.now c.deref.ensures.value c.self.invariant.ascending

pub returns : goal.returns
returns g c =
    subst (λ (v : IndexView). IsLeast v.entries (IsAfter c.args.from) c.entry_at.result) c.self.view_is
    (least_found _ _ _ c.self.inside.trees.items c.deref.result.now c.deref-2.result.now (IsAfter c.args.from) c.position_after-position.result c.entry_at.result
    c.deref.ensures.value c.deref-2.ensures.value c.self.invariant.ascending c.position_after-position.ensures c.entry_at.ensures)
