use Rattle.std.proofs.Common.{◌∙◌, length, sum_by, ap, sym, subst, arith}
use Rattle.index_nodes.specs.Nodes.{all, AreNeat}
use Rattle.index_nodes.proofs.RowLemmas.{item}
use Rattle.index_nodes.proofs.NodeLemmas.{count_removed}
use Rattle.index_nodes.proofs.SweepLemmas.{none_removed, neat_removed, neat_filled}
use Rattle.index_nodes.proofs.nodes.drop_empty.Goals as goal

pub returns-then-len-eq0-clause-entries : goal.returns-then-len-eq0-clause-entries
returns-then-len-eq0-clause-entries g c =
    let nodes = c.args.nodes.now.items in
    let at = item nodes c.args.number c.index.result.now c.requires.in_range c.index.ensures in
    let none = g.met.N.Node.none c.index.result.now (omega (arith, c.len.ensures.value, c.if-len-eq0.true)) in
    ap (all g.N.Node.entries) c.remove-empty.ensures.items ∙ none_removed g.N.Node.entries nodes c.args.number c.index.result.now at none

pub returns-then-len-eq0-clause-neat : goal.returns-then-len-eq0-clause-neat
returns-then-len-eq0-clause-neat g c =
    subst (AreNeat g.N.Node.IsNeat g.N.Node.size) (sym c.remove-empty.ensures.items)
    (neat_removed g.N.Node.IsNeat g.N.Node.size c.args.nodes.now.items c.args.number c.requires.in_range c.requires.neat)

pub returns-else-len-eq0-clause-neat : goal.returns-else-len-eq0-clause-neat
returns-else-len-eq0-clause-neat g c =
    let nodes = c.args.nodes.now.items in
    let at = item nodes c.args.number c.index.result.now c.requires.in_range c.index.ensures in
    neat_filled g.N.Node.IsNeat g.N.Node.size nodes c.args.number c.requires.in_range c.requires.neat c.index.result.now at (omega (arith, c.len.ensures.value, c.if-len-eq0.false))

pub returns-then-len-eq0-clause-long : goal.returns-then-len-eq0-clause-long
returns-then-len-eq0-clause-long g c =
    let nodes = c.args.nodes.now.items in
    let empty = ap length (g.met.N.Node.none c.index.result.now (omega (arith, c.len.ensures.value, c.if-len-eq0.true))) in
    ap (sum_by g.N.Node.long) c.remove-empty.ensures.items
    ∙ count_removed g.N.Node.long nodes c.args.number c.index.result.now c.requires.in_range c.index.ensures (omega (arith, empty, g.met.N.Node.halves c.index.result.now))
