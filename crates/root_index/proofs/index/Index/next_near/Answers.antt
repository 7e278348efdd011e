use Rattle.std.proofs.Common.{◌∙◌, Some, None, sym, subst}
use Rattle.root_index.specs.View.{IndexView}
use Rattle.index_entries.specs.Sets.{IsAfter, IsLeast}
use Rattle.root_index.proofs.SoundLemmas.{ascending_there, least_found}
use Rattle.root_index.proofs.index.Index.next_near.Goals as goal

pub position_near-position-requires-clause-ascending : goal.position_near-position-requires-clause-ascending
position_near-position-requires-clause-ascending g c = ascending_there c.self.inside.trees.items c.deref.result.now c.deref.ensures.value c.self.invariant.ascending

pub returns-in-Some : goal.returns-in-Some
returns-in-Some g c =
    subst (λ (v : IndexView). IsLeast v.entries (IsAfter (Some c.args.from)) (Some c.in-Some.entry)) c.self.view_is
    (least_found _ _ _ c.self.inside.trees.items c.deref.result.now c.deref-2.result.now (IsAfter (Some c.args.from)) c.position_near-position.result (Some c.in-Some.entry)
    c.deref.ensures.value c.deref-2.ensures.value c.self.invariant.ascending c.position_near-position.ensures (sym c.in-Some.is ∙ c.entry_at.ensures))

pub returns-in-None : goal.returns-in-None
returns-in-None g c =
    subst (λ (v : IndexView). IsLeast v.entries (IsAfter (Some c.args.from)) None) c.self.view_is
    (least_found _ _ _ c.self.inside.trees.items c.deref.result.now c.deref-2.result.now (IsAfter (Some c.args.from)) c.position_near-position.result None
    c.deref.ensures.value c.deref-2.ensures.value c.self.invariant.ascending c.position_near-position.ensures (sym c.in-None.is ∙ c.entry_at.ensures))
