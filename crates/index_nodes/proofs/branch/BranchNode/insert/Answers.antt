use Rattle.std.proofs.Common.{sum_by, ap, arith}
use Rattle.std.proofs.lemmas.Result.{on_ok_weaker}
use Rattle.index_nodes.proofs.branch.BranchNode.insert.Goals as goal

pub returns-clause-unspent : goal.returns-clause-unspent
returns-clause-unspent g c =
    let there = ap (sum_by g.N.Node.nodes) c.self.view_is in
    on_ok_weaker c.insert.result
    (λ unspent same k left.
    let kept = unspent (omega (arith, same, there)) in
    (omega (arith, kept.nodes, left.0), kept.below k left.1))
    c.insert.ensures.unspent
