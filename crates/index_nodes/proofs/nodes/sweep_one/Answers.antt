use Rattle.std.proofs.Common.{◌+◌, inl, inr, nat_lt, ⊎_elim, arith}
use Rattle.std.proofs.lemmas.Bool.Decides.{nat_tests}
use Rattle.index_nodes.proofs.RowLemmas.{item}
use Rattle.index_nodes.proofs.NodeLemmas.{count_put}
use Rattle.index_nodes.proofs.SweepLemmas.{swept_one, behind_in}
use Rattle.index_nodes.proofs.nodes.sweep_one.Goals as goal

pub returns-in-Some-clause-swept : goal.returns-in-Some-clause-swept
returns-in-Some-clause-swept g c =
    let nodes = c.args.nodes.now.items in
    let at = item nodes c.args.position.node c.index_mut.result.now c.requires.node c.index_mut.ensures.value in
    swept_one g.N.Node.entries g.N.Node.rank g.N.Node.IsNeat g.N.Node.size g.met.N.Node.some nodes c.drop_empty.new.nodes.items c.args.position c.index_mut.result.now c.sweep_from.new.self
    c.args.dead.now c.in-Some.swept c.of_all.result (nat_lt (c.args.position.node + 1) c.len.result) c.requires.neat at c.in-Some.ensures.swept c.drop_empty.ensures.entries
    c.of_all.ensures.last c.of_all.ensures.removed c.of_all.ensures.more
    (λ h. grind (arith, nat_tests, c.len.ensures), λ h. grind (arith, nat_tests, c.len.ensures))

pub returns-in-None-clause-none : goal.returns-in-None-clause-none
returns-in-None-clause-none g c =
    let nodes = c.args.nodes.now.items in
    let at = item nodes c.args.position.node c.index_mut.result.now c.requires.node c.index_mut.ensures.value in
    behind_in g.N.Node.entries g.N.Node.rank nodes c.args.position c.index_mut.result.now at c.in-None.ensures.none

pub returns-in-Some-clause-returned : goal.returns-in-Some-clause-returned
returns-in-Some-clause-returned g c =
    let put = count_put g.N.Node.long c.args.nodes.now.items c.args.position.node c.index_mut.result.now c.requires.node c.index_mut.ensures.value c.sweep_from.new.self in
    λ places. ⊎_elim (λ has. inl has) (λ kept. inr (omega (arith, put, kept, c.drop_empty.ensures.long))) (c.sweep_from.ensures.returned places.1)

pub returns-in-None-clause-returned : goal.returns-in-None-clause-returned
returns-in-None-clause-returned g c =
    let put = count_put g.N.Node.long c.args.nodes.now.items c.args.position.node c.index_mut.result.now c.requires.node c.index_mut.ensures.value c.sweep_from.new.self in
    λ places. ⊎_elim (λ has. inl has) (λ kept. inr (omega (arith, put, kept))) (c.sweep_from.ensures.returned places.1)
