use Rattle.std.proofs.Common.{◌∙◌, ◌<◌, ◌+◌, slice_get, sym, ap}
use Rattle.std.specs.Option.{option_map}
use Rattle.std.proofs.lemmas.Option.{IfSome_then}
use Rattle.index_nodes.proofs.RowLemmas.{all_at, lists_filled, entry_here, entry_next, entry_last}
use Rattle.index_nodes.proofs.EndLemmas.{end_here, end_in_next}
use Rattle.index_nodes.proofs.nodes.look_at.Goals as goal

pub returns-in-Some-clause-entry : goal.returns-in-Some-clause-entry
returns-in-Some-clause-entry g c =
    sym (entry_here g.N.Node.entries g.N.Node.rank g.N.Node.IsPosition g.met.N.Node.within c.args.nodes.now c.args.position c.in_ok-node.node.now c.in-Some.entry (sym c.in_ok-node.ensures)
    (sym c.in-Some.ensures.entry))

pub returns-in-Some-clause-end : goal.returns-in-Some-clause-end
returns-in-Some-clause-end g c =
    λ yes. end_here g.N.Node.entries g.N.Node.rank c.args.nodes.now c.args.position c.in_ok-node.node.now c.in-Some.entry (sym c.in_ok-node.ensures) (c.in-Some.ensures.end yes)

pub returns-in_err-node_of-clause-entry : goal.returns-in_err-node_of-clause-entry
returns-in_err-node_of-clause-entry g c =
    ap (option_map (λ found. found.0)) c.from_residual-in_err-node_of.ensures
    ∙ sym (entry_last g.N.Node.entries g.N.Node.rank g.N.Node.IsPosition g.met.N.Node.within c.args.nodes.now c.args.position c.in_ok-node.node.now c.requires.position (sym c.in_ok-node.ensures)
    (sym c.look_at.ensures.entry ∙ ap (option_map (λ found. found.0)) c.in_default.is) (sym c.in_err-node_of.ensures))

pub look_at-requires-2-clause-neat : goal.look_at-requires-2-clause-neat
look_at-requires-2-clause-neat g c = (all_at (λ n. g.N.Node.IsNeat n × (0 < g.N.Node.size n)) c.args.nodes.now (c.args.position.node + 1) c.in_ok-node_of.field-0.now c.requires.neat (sym c.in_ok-node_of.ensures)).0

pub look_at-requires-2-clause-position : goal.look_at-requires-2-clause-position
look_at-requires-2-clause-position g c =
    c.first.ensures.position c.in_ok-node_of.field-0.now (all_at (λ n. g.N.Node.IsNeat n × (0 < g.N.Node.size n)) c.args.nodes.now (c.args.position.node + 1) c.in_ok-node_of.field-0.now c.requires.neat (sym c.in_ok-node_of.ensures)).0

pub returns-clause-entry : goal.returns-clause-entry
returns-clause-entry g c =
    let filled = lists_filled g.N.Node.entries g.N.Node.IsNeat g.N.Node.size g.met.N.Node.some c.args.nodes.now c.requires.neat in
    c.look_at-2.ensures.entry
    ∙ ap (slice_get (g.N.Node.entries c.in_ok-node_of.field-0.now)) (c.first.ensures.rank c.in_ok-node_of.field-0.now)
    ∙ sym (entry_next g.N.Node.entries g.N.Node.rank g.N.Node.IsPosition g.met.N.Node.within c.args.nodes.now c.args.position c.in_ok-node.node.now c.in_ok-node_of.field-0.now filled
    c.requires.position (sym c.in_ok-node.ensures) (sym c.look_at.ensures.entry ∙ ap (option_map (λ found. found.0)) c.in_default.is) (sym c.in_ok-node_of.ensures))

pub returns-clause-end : goal.returns-clause-end
returns-clause-end g c =
    let m = c.in_ok-node_of.field-0.now in
    IfSome_then c.look_at-2.result c.look_at-2.ensures.end
    (λ found known yes. end_in_next g.N.Node.entries g.N.Node.rank g.N.Node.IsPosition g.met.N.Node.within c.args.nodes.now c.args.position c.in_ok-node.node.now m found.0 c.first.result
    c.requires.position (sym c.in_ok-node.ensures) (sym c.look_at.ensures.entry ∙ ap (option_map (λ found. found.0)) c.in_default.is) (sym c.in_ok-node_of.ensures) (c.first.ensures.rank m) (known yes))
