use Rattle.std.proofs.Common.{ℤ, ◌∙◌, Some, None, sym, ap, subst}
use Rattle.std.specs.Int.{w128}
use Rattle.std.specs.Option.{option_map}
use Rattle.std.proofs.lemmas.Int.{to_z-of_z}
use Rattle.root_index.specs.View.{IndexView}
use Rattle.index_entries.specs.Sets.{IsBelow, IsLeast, IsLastOf}
use Rattle.root_index.specs.Trees.{among}
use Rattle.root_index.proofs.SoundLemmas.{ascending_there, least_found}
use Rattle.index_nodes.proofs.EndLemmas.{last_found}
use Rattle.root_index.proofs.index.Index.first_from.Goals as goal

pub position_from-position-requires-clause-ascending : goal.position_from-position-requires-clause-ascending
position_from-position-requires-clause-ascending g c = ascending_there c.self.inside.trees.items c.deref.result.now c.deref.ensures.value c.self.invariant.ascending

pub returns-in-Some-clause-found : goal.returns-in-Some-clause-found
returns-in-Some-clause-found g c =
    subst (λ (v : IndexView). IsLeast v.entries (λ e. ¬ IsBelow c.args.value c.args.key e) (Some c.in-Some.entry)) c.self.view_is
    (subst (λ (v : ℤ). IsLeast (among c.self.inside.trees.items) (λ e. ¬ IsBelow v c.args.key e) (Some c.in-Some.entry)) (to_z-of_z w128 c.args.value c.ranges.value)
    (least_found _ _ _ c.self.inside.trees.items c.deref.result.now c.deref-2.result.now _ c.position_from-position.result (Some c.in-Some.entry)
    c.deref.ensures.value c.deref-2.ensures.value c.self.invariant.ascending c.position_from-position.ensures c.in-Some.ensures.entry))

pub returns-in-Some-clause-last : goal.returns-in-Some-clause-last
returns-in-Some-clause-last g c =
    λ yes. subst (λ (v : IndexView). IsLastOf v.entries c.in-Some.entry) c.self.view_is
    (last_found _ _ c.self.inside.trees.items c.deref-2.result.now c.in-Some.entry c.position_from-position.result c.deref-2.ensures.value c.self.invariant.ascending
    c.in-Some.ensures.entry (c.in-Some.ensures.end yes))

pub returns-in-None-clause-found : goal.returns-in-None-clause-found
returns-in-None-clause-found g c =
    subst (λ (v : IndexView). IsLeast v.entries (λ e. ¬ IsBelow c.args.value c.args.key e) None) c.self.view_is
    (subst (λ (v : ℤ). IsLeast (among c.self.inside.trees.items) (λ e. ¬ IsBelow v c.args.key e) None) (to_z-of_z w128 c.args.value c.ranges.value)
    (least_found _ _ _ c.self.inside.trees.items c.deref.result.now c.deref-2.result.now _ c.position_from-position.result None
    c.deref.ensures.value c.deref-2.ensures.value c.self.invariant.ascending c.position_from-position.ensures (ap (option_map (λ found. found.0)) (sym c.in-None.is) ∙ c.look_at.ensures.entry)))
