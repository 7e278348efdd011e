use Rattle.std.proofs.Common.{◌∙◌, ◌<◌, ◌+◌, sym, subst}
use Rattle.index_nodes.specs.Nodes.{AreNeat, IsOpened}
use Rattle.index_nodes.proofs.RowLemmas.{item}
use Rattle.index_nodes.proofs.RowGrowthLemmas.{split_to_is, all_split, opened_low, opened_high}
use Rattle.index_nodes.proofs.NodeLemmas.{count_split, count_kept}
use Rattle.index_nodes.proofs.nodes.split.Goals as goal

pub returns-in-Lower-clause-opened : goal.returns-in-Lower-clause-opened
returns-in-Lower-clause-opened g c =
    let nodes = c.args.nodes.now.items in
    let i = c.args.position.node in
    let at = item nodes i c.index_mut.result.now c.requires.node c.index_mut.ensures.value in
    let made = split_to_is nodes i c.split-half.new.self c.split-half.new.upper c.requires.node ∙ sym c.put_node.ensures.items in
    subst (λ new. IsOpened g.N.Node.entries g.N.Node.size g.N.Node.rank g.N.Node.IsPosition nodes new c.args.position (record { node = i; inner = c.in-Lower.inner })) made
    (opened_low g.N.Node.entries g.N.Node.size g.N.Node.rank g.N.Node.IsPosition nodes c.args.position c.index_mut.result.now c.split-half.new.self c.split-half.new.upper c.in-Lower.inner at
    c.split-half.ensures.entries c.split-half.ensures.part.1 c.in-Lower.ensures.position c.in-Lower.ensures.rank)

pub returns-in-Lower-clause-neat : goal.returns-in-Lower-clause-neat
returns-in-Lower-clause-neat g c =
    let nodes = c.args.nodes.now.items in
    let made = split_to_is nodes c.args.position.node c.split-half.new.self c.split-half.new.upper c.requires.node ∙ sym c.put_node.ensures.items in
    let halves = c.split-half.ensures in
    subst (AreNeat g.N.Node.IsNeat g.N.Node.size) made
    (all_split (λ n. g.N.Node.IsNeat n × (0 < g.N.Node.size n)) nodes c.args.position.node c.split-half.new.self c.split-half.new.upper c.requires.neat
    (halves.neat, halves.part.0) (halves.neat_too, halves.part_too.0))

pub returns-in-Upper-clause-opened : goal.returns-in-Upper-clause-opened
returns-in-Upper-clause-opened g c =
    let nodes = c.args.nodes.now.items in
    let i = c.args.position.node in
    let at = item nodes i c.index_mut.result.now c.requires.node c.index_mut.ensures.value in
    let made = split_to_is nodes i c.split-half.new.self c.split-half.new.upper c.requires.node ∙ sym c.put_node.ensures.items in
    subst (λ new. IsOpened g.N.Node.entries g.N.Node.size g.N.Node.rank g.N.Node.IsPosition nodes new c.args.position (record { node = i + 1; inner = c.in-Upper.inner })) made
    (opened_high g.N.Node.entries g.N.Node.size g.N.Node.rank g.N.Node.IsPosition nodes c.args.position c.index_mut.result.now c.split-half.new.self c.split-half.new.upper c.in-Upper.inner at
    c.split-half.ensures.entries c.split-half.ensures.part_too.1 c.in-Upper.ensures.position c.in-Upper.ensures.rank)

pub returns-in-Upper-clause-neat : goal.returns-in-Upper-clause-neat
returns-in-Upper-clause-neat g c =
    let nodes = c.args.nodes.now.items in
    let made = split_to_is nodes c.args.position.node c.split-half.new.self c.split-half.new.upper c.requires.node ∙ sym c.put_node.ensures.items in
    let halves = c.split-half.ensures in
    subst (AreNeat g.N.Node.IsNeat g.N.Node.size) made
    (all_split (λ n. g.N.Node.IsNeat n × (0 < g.N.Node.size n)) nodes c.args.position.node c.split-half.new.self c.split-half.new.upper c.requires.neat
    (halves.neat, halves.part.0) (halves.neat_too, halves.part_too.0))

pub returns-in-Lower-clause-nodes : goal.returns-in-Lower-clause-nodes
returns-in-Lower-clause-nodes g c =
    count_split g.N.Node.nodes c.args.nodes.now.items c.args.position.node c.index_mut.result.now c.requires.node c.index_mut.ensures.value c.put_node.new.nodes.items c.split-half.new.self
    c.split-half.new.upper c.put_node.ensures.items c.split-half.ensures.nodes

pub returns-in-Upper-clause-nodes : goal.returns-in-Upper-clause-nodes
returns-in-Upper-clause-nodes g c =
    count_split g.N.Node.nodes c.args.nodes.now.items c.args.position.node c.index_mut.result.now c.requires.node c.index_mut.ensures.value c.put_node.new.nodes.items c.split-half.new.self
    c.split-half.new.upper c.put_node.ensures.items c.split-half.ensures.nodes

pub returns-in-Lower-clause-long : goal.returns-in-Lower-clause-long
returns-in-Lower-clause-long g c =
    count_kept g.N.Node.long c.args.nodes.now.items c.args.position.node c.index_mut.result.now c.requires.node c.index_mut.ensures.value c.put_node.new.nodes.items c.split-half.new.self
    c.split-half.new.upper c.put_node.ensures.items c.split-half.ensures.long

pub returns-in-Upper-clause-long : goal.returns-in-Upper-clause-long
returns-in-Upper-clause-long g c =
    count_kept g.N.Node.long c.args.nodes.now.items c.args.position.node c.index_mut.result.now c.requires.node c.index_mut.ensures.value c.put_node.new.nodes.items c.split-half.new.self
    c.split-half.new.upper c.put_node.ensures.items c.split-half.ensures.long
