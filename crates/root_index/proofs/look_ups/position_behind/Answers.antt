use Rattle.std.proofs.Common.{Some, sym, subst}
use Rattle.index_entries.specs.Sets.{IsAfter, IsStart}
use Rattle.index_nodes.specs.Nodes.{all, rank_in}
use Rattle.index_entries.proofs.SetLemmas.{start_after}
use Rattle.root_index.proofs.look_ups.position_behind.Goals as goal

pub returns-then-stands_at : goal.returns-then-stands_at
returns-then-stands_at g c =
    let nodes = c.args.nodes.now in
    let entry = c.if-stands_at.ensures.entry in
    record {
      in_range = c.behind.ensures.position nodes entry;
      start = subst (IsStart (all g.N.Node.entries nodes) (IsAfter (Some c.args.from))) (sym (c.behind.ensures.rank nodes entry))
          (start_after (all g.N.Node.entries nodes) c.args.from (rank_in g.N.Node.entries g.N.Node.rank nodes c.args.near) c.requires.ascending c.if-stands_at.ensures.found);
    }
