use Rattle.std.proofs.Common.{Option, Some, None, sym, subst, arith}
use Rattle.index_entries.specs.declared.entry.Entry.{Entry}
use Rattle.index_entries.specs.Sets.{IsAfter, IsStart}
use Rattle.index_nodes.specs.Nodes.{all, rank_in, IsStartIn}
use Rattle.index_entries.proofs.SetLemmas.{start_after, start_after_gap}
use Rattle.root_index.proofs.look_ups.position_after.Goals as goal

pub returns-in-None : goal.returns-in-None
returns-in-None g c =
    let nodes = c.args.nodes.now in
    subst (λ (o : Option Entry). IsStartIn g.N.Node.entries g.N.Node.rank g.N.Node.IsPosition nodes (IsAfter o) c.first.result) (sym c.in-None.is)
    (record {
      in_range = c.first.ensures.position nodes c.requires.neat;
      start = subst (IsStart (all g.N.Node.entries nodes) (IsAfter None)) (sym (c.first.ensures.rank nodes))
          (record { in_range = omega arith; before = λ k e lt at h. omega arith; from = λ k e le at. tt });
    })

pub returns-in-Ok : goal.returns-in-Ok
returns-in-Ok g c =
    let nodes = c.args.nodes.now in
    let entry = c.in-Ok.ensures.entry in
    subst (λ (o : Option Entry). IsStartIn g.N.Node.entries g.N.Node.rank g.N.Node.IsPosition nodes (IsAfter o) c.behind.result) (sym c.in-Some.is)
    (record {
      in_range = c.behind.ensures.position nodes entry;
      start = subst (IsStart (all g.N.Node.entries nodes) (IsAfter (Some c.in-Some.entry))) (sym (c.behind.ensures.rank nodes entry))
          (start_after (all g.N.Node.entries nodes) c.in-Some.entry (rank_in g.N.Node.entries g.N.Node.rank nodes c.in-Ok.position) c.requires.ascending c.in-Ok.ensures.found);
    })

pub returns-in-Err : goal.returns-in-Err
returns-in-Err g c =
    let nodes = c.args.nodes.now in
    subst (λ (o : Option Entry). IsStartIn g.N.Node.entries g.N.Node.rank g.N.Node.IsPosition nodes (IsAfter o) c.in-Err.position) (sym c.in-Some.is)
    (record {
      in_range = c.in-Err.ensures.position;
      start = start_after_gap (all g.N.Node.entries nodes) c.in-Some.entry (rank_in g.N.Node.entries g.N.Node.rank nodes c.in-Err.position) c.in-Err.ensures.absent;
    })
