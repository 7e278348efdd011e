use Rattle.std.proofs.Common.{Option, sym, subst}
use Rattle.index_entries.specs.declared.entry.Entry.{Entry}
use Rattle.index_entries.specs.Sets.{IsAfter}
use Rattle.index_nodes.specs.Nodes.{IsStartIn}
use Rattle.root_index.proofs.look_ups.position_near.Goals as goal

pub returns-in-Some : goal.returns-in-Some
returns-in-Some g c =
    subst (λ (o : Option Entry). IsStartIn g.N.Node.entries g.N.Node.rank g.N.Node.IsPosition c.args.nodes.now (IsAfter o) c.position_behind.result) (sym c.in-Some.is) c.position_behind.ensures

pub returns-in-None : goal.returns-in-None
returns-in-None g c =
    subst (λ (o : Option Entry). IsStartIn g.N.Node.entries g.N.Node.rank g.N.Node.IsPosition c.args.nodes.now (IsAfter o) c.position_after.result) (sym c.in-None.is) c.position_after.ensures
