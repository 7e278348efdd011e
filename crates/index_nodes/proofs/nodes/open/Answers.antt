use Rattle.std.proofs.Common.{arith}
use Rattle.index_nodes.proofs.RowLemmas.{item}
use Rattle.index_entries.proofs.SetLemmas.{on_err}
use Rattle.index_nodes.proofs.FullLemmas.{full_by_parts, full_there}
use Rattle.index_nodes.proofs.nodes.open.Goals as goal

-- memory is asked for only where the node has all its parts

pub returns-in_err-try_reserve-clause-full : goal.returns-in_err-try_reserve-clause-full
returns-in_err-try_reserve-clause-full g c =
    let nodes = c.args.nodes.now.items in
    let at = item nodes c.args.position.node c.index.result.now c.requires.node c.index.ensures in
    on_err c.from_residual.result _ (full_by_parts g.N.Node.entries g.N.Node.IsNeat g.N.Node.size nodes c.args.position.node c.index.result.now c.requires.neat at g.met.N.Node.many
    (omega (arith, c.if-len-lt-MOST_PARTS.false, c.len.ensures.value)))

pub returns-in_err-upper-clause-full : goal.returns-in_err-upper-clause-full
returns-in_err-upper-clause-full g c =
    let nodes = c.args.nodes.now.items in
    let at = item nodes c.args.position.node c.index.result.now c.requires.node c.index.ensures in
    on_err c.from_residual-in_err-upper.result _ (full_by_parts g.N.Node.entries g.N.Node.IsNeat g.N.Node.size nodes c.args.position.node c.index.result.now c.requires.neat at g.met.N.Node.many
    (omega (arith, c.if-len-lt-MOST_PARTS.false, c.len.ensures.value)))

pub split-requires-clause-full : goal.split-requires-clause-full
split-requires-clause-full g c =
    let at = item c.args.nodes.now.items c.args.position.node c.index.result.now c.requires.node c.index.ensures in
    full_there g.N.Node.size c.args.nodes.now.items c.try_reserve.new.self.items c.args.position.node c.index.result.now at c.in_ok-try_reserve.ensures.items
    (omega (arith, c.if-len-lt-MOST_PARTS.false, c.len.ensures.value, c.len.ensures.limit))
