use Rattle.std.proofs.Common.{ℤ, subst}
use Rattle.std.specs.Int.{w128}
use Rattle.std.proofs.lemmas.Int.{to_z-of_z}
use Rattle.index_entries.specs.Sets.{IsBelow}
use Rattle.index_nodes.specs.Nodes.{rank_in, IsStartIn}
use Rattle.index_entries.proofs.SetLemmas.{start_from, start_from_gap}
use Rattle.index_nodes.specs.Rows.{entry_is_position}
use Rattle.root_index.proofs.look_ups.position_from.Goals as goal

pub returns-in-Ok : goal.returns-in-Ok
returns-in-Ok g c =
    let nodes = c.args.nodes.now in
    subst (λ (v : ℤ). IsStartIn g.N.Node.entries g.N.Node.rank g.N.Node.IsPosition nodes (λ e. ¬ IsBelow v c.args.key e) c.in-Ok.position) (to_z-of_z w128 c.args.value c.ranges.value)
    (record {
      in_range = entry_is_position g.N.Node.IsPosition g.N.Node.IsEntry g.met.N.Node.before nodes c.in-Ok.position c.in-Ok.ensures.entry;
      start = start_from _ _ _ (rank_in g.N.Node.entries g.N.Node.rank nodes c.in-Ok.position) c.requires.ascending c.in-Ok.ensures.found;
    })

pub returns-in-Err : goal.returns-in-Err
returns-in-Err g c =
    let nodes = c.args.nodes.now in
    subst (λ (v : ℤ). IsStartIn g.N.Node.entries g.N.Node.rank g.N.Node.IsPosition nodes (λ e. ¬ IsBelow v c.args.key e) c.in-Err.position) (to_z-of_z w128 c.args.value c.ranges.value)
    (record {
      in_range = c.in-Err.ensures.position;
      start = start_from_gap _ _ _ (rank_in g.N.Node.entries g.N.Node.rank nodes c.in-Err.position) c.in-Err.ensures.absent;
    })
