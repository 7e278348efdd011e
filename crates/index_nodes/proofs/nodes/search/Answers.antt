use Rattle.std.proofs.Common.{arith}
use Rattle.index_nodes.proofs.RowLemmas.{item, ascending_in, found_in, gap_in, lists_filled, length-lists}
use Rattle.index_nodes.specs.Rows.{is_entry_in, position_in}
use Rattle.index_nodes.proofs.nodes.search.Goals as goal

pub search-requires-clause-ascending : goal.search-requires-clause-ascending
search-requires-clause-ascending g c =
    let size = length-lists g.N.Node.entries c.args.nodes.now in
    let at = item c.args.nodes.now c.node_for-node.result c.index-nodes-node.result (omega (arith, c.node_for-node.ensures.in_range)) c.index-nodes-node.is in
    ascending_in g.N.Node.entries c.args.nodes.now c.node_for-node.result c.index-nodes-node.result c.requires.ascending at

pub returns-in-Ok-clause-entry : goal.returns-in-Ok-clause-entry
returns-in-Ok-clause-entry g c =
    let size = length-lists g.N.Node.entries c.args.nodes.now in
    let at = item c.args.nodes.now c.node_for-node.result c.index-nodes-node.result (omega (arith, c.node_for-node.ensures.in_range)) c.index-nodes-node.is in
    is_entry_in g.N.Node.IsEntry c.args.nodes.now (record { node = c.node_for-node.result; inner = c.in-Ok.inner }) c.index-nodes-node.result at c.in-Ok.ensures.entry

pub returns-in-Ok-clause-found : goal.returns-in-Ok-clause-found
returns-in-Ok-clause-found g c =
    let size = length-lists g.N.Node.entries c.args.nodes.now in
    let at = item c.args.nodes.now c.node_for-node.result c.index-nodes-node.result (omega (arith, c.node_for-node.ensures.in_range)) c.index-nodes-node.is in
    found_in g.N.Node.entries g.N.Node.rank c.args.nodes.now c.args.sought.now (record { node = c.node_for-node.result; inner = c.in-Ok.inner }) c.index-nodes-node.result at
    c.in-Ok.ensures.found

pub returns-in-Err-clause-position : goal.returns-in-Err-clause-position
returns-in-Err-clause-position g c =
    let size = length-lists g.N.Node.entries c.args.nodes.now in
    let at = item c.args.nodes.now c.node_for-node.result c.index-nodes-node.result (omega (arith, c.node_for-node.ensures.in_range)) c.index-nodes-node.is in
    position_in g.N.Node.IsPosition c.args.nodes.now (record { node = c.node_for-node.result; inner = c.in-Err.inner }) c.index-nodes-node.result at c.in-Err.ensures.position

pub returns-in-Err-clause-absent : goal.returns-in-Err-clause-absent
returns-in-Err-clause-absent g c =
    let size = length-lists g.N.Node.entries c.args.nodes.now in
    let at = item c.args.nodes.now c.node_for-node.result c.index-nodes-node.result (omega (arith, c.node_for-node.ensures.in_range)) c.index-nodes-node.is in
    let filled = lists_filled g.N.Node.entries g.N.Node.IsNeat g.N.Node.size g.met.N.Node.some c.args.nodes.now c.requires.neat in
    gap_in g.N.Node.entries g.N.Node.rank c.args.nodes.now c.args.sought.now (record { node = c.node_for-node.result; inner = c.in-Err.inner }) c.index-nodes-node.result
    filled c.requires.ascending c.node_for-node.ensures at c.in-Err.ensures.absent
