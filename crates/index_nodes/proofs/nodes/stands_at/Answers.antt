use Rattle.std.proofs.Common.{sym}
use Rattle.std.proofs.lemmas.Bool.{OnTrue_at, OnTrue_from}
use Rattle.index_nodes.specs.Rows.{entry_of_node}
use Rattle.index_nodes.proofs.RowLemmas.{found_in, found_back}
use Rattle.index_nodes.proofs.nodes.stands_at.Goals as goal

pub returns-in-Some-clause-found : goal.returns-in-Some-clause-found
returns-in-Some-clause-found g c =
    OnTrue_from c.stands_at.result _
    (λ there. found_in g.N.Node.entries g.N.Node.rank c.args.nodes.now c.args.sought.now c.args.position c.in-Some.node.now (sym c.in-Some.ensures)
    (OnTrue_at there c.stands_at.ensures.found))

pub returns-in-Some-clause-exact : goal.returns-in-Some-clause-exact
returns-in-Some-clause-exact g c = λ entry at.
    let node = c.in-Some.node.now in
    let stands = entry_of_node g.N.Node.IsEntry c.args.nodes.now c.args.position node (sym c.in-Some.ensures) entry in
    c.stands_at.ensures.exact stands
    (found_back g.N.Node.entries g.N.Node.rank c.args.nodes.now c.args.sought.now c.args.position node (sym c.in-Some.ensures) (g.met.N.Node.inside node c.args.position.inner stands) at)
