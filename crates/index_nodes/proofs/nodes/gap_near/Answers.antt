use Rattle.std.proofs.Common.{sym}
use Rattle.index_nodes.specs.Rows.{position_in}
use Rattle.index_nodes.proofs.RowLemmas.{ascending_in}
use Rattle.index_nodes.proofs.GapLemmas.{goes_behind_in, goes_before_in}
use Rattle.index_nodes.proofs.nodes.gap_near.Goals as goal

pub gap_near-requires : goal.gap_near-requires
gap_near-requires g c = ascending_in g.N.Node.entries c.args.nodes.now c.args.near.node c.in_ok-node.node.now c.requires (sym c.in_ok-node.ensures)

pub returns-in-Some-clause-position : goal.returns-in-Some-clause-position
returns-in-Some-clause-position g c =
    position_in g.N.Node.IsPosition c.args.nodes.now (record { node = c.args.near.node; inner = c.in-Some.inner }) c.in_ok-node.node.now (sym c.in_ok-node.ensures) c.in-Some.ensures.position

pub returns-in-Some-clause-behind : goal.returns-in-Some-clause-behind
returns-in-Some-clause-behind g c =
    goes_behind_in g.N.Node.entries g.N.Node.rank c.args.nodes.now c.args.sought.now (record { node = c.args.near.node; inner = c.in-Some.inner }) c.in_ok-node.node.now c.requires
    (sym c.in_ok-node.ensures) c.in-Some.ensures.behind

pub returns-in-Some-clause-before : goal.returns-in-Some-clause-before
returns-in-Some-clause-before g c =
    goes_before_in g.N.Node.entries g.N.Node.rank c.args.nodes.now c.args.sought.now (record { node = c.args.near.node; inner = c.in-Some.inner }) c.in_ok-node.node.now c.requires
    (sym c.in_ok-node.ensures) c.is_last_of-is_last.result c.args.is_last c.is_last_of-is_last.ensures c.in-Some.ensures.before
