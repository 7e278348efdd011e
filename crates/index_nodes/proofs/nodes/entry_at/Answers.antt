use Rattle.std.proofs.Common.{◌∙◌, ◌<◌, ◌+◌, slice_get, sym, ap}
use Rattle.index_nodes.proofs.RowLemmas.{all_at, lists_filled, entry_here, entry_next, entry_last}
use Rattle.index_nodes.proofs.nodes.entry_at.Goals as goal

pub returns-in-Some : goal.returns-in-Some
returns-in-Some g c =
    sym (entry_here g.N.Node.entries g.N.Node.rank g.N.Node.IsPosition g.met.N.Node.within c.args.nodes.now c.args.position c.in_ok-node.node.now c.in-Some.entry (sym c.in_ok-node.ensures)
    (sym c.entry_at.ensures ∙ c.in-Some.is))

pub returns-in_err-node_of : goal.returns-in_err-node_of
returns-in_err-node_of g c =
    c.from_residual-in_err-node_of.ensures
    ∙ sym (entry_last g.N.Node.entries g.N.Node.rank g.N.Node.IsPosition g.met.N.Node.within c.args.nodes.now c.args.position c.in_ok-node.node.now c.requires.position (sym c.in_ok-node.ensures)
    (sym c.entry_at.ensures ∙ c.in_default.is) (sym c.in_err-node_of.ensures))

pub entry_at-requires-2-clause-neat : goal.entry_at-requires-2-clause-neat
entry_at-requires-2-clause-neat g c = (all_at (λ n. g.N.Node.IsNeat n × (0 < g.N.Node.size n)) c.args.nodes.now (c.args.position.node + 1) c.in_ok-node_of.field-0.now c.requires.neat (sym c.in_ok-node_of.ensures)).0

pub entry_at-requires-2-clause-position : goal.entry_at-requires-2-clause-position
entry_at-requires-2-clause-position g c =
    c.first.ensures.position c.in_ok-node_of.field-0.now (all_at (λ n. g.N.Node.IsNeat n × (0 < g.N.Node.size n)) c.args.nodes.now (c.args.position.node + 1) c.in_ok-node_of.field-0.now c.requires.neat (sym c.in_ok-node_of.ensures)).0

pub returns : goal.returns
returns g c =
    let filled = lists_filled g.N.Node.entries g.N.Node.IsNeat g.N.Node.size g.met.N.Node.some c.args.nodes.now c.requires.neat in
    c.entry_at-2.ensures
    ∙ ap (slice_get (g.N.Node.entries c.in_ok-node_of.field-0.now)) (c.first.ensures.rank c.in_ok-node_of.field-0.now)
    ∙ sym (entry_next g.N.Node.entries g.N.Node.rank g.N.Node.IsPosition g.met.N.Node.within c.args.nodes.now c.args.position c.in_ok-node.node.now c.in_ok-node_of.field-0.now filled
    c.requires.position (sym c.in_ok-node.ensures) (sym c.entry_at.ensures ∙ c.in_default.is) (sym c.in_ok-node_of.ensures))
