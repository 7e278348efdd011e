use Rattle.std.proofs.Common.{arith}
use Rattle.index_nodes.proofs.SweepLemmas.{rank_next, swept_next, past_all, none_weaker}
use Rattle.index_nodes.proofs.nodes.sweep_from.Goals as goal

pub returns-in-None-clause-swept : goal.returns-in-None-clause-swept
returns-in-None-clause-swept g c =
    let nodes = c.args.nodes.now.items in
    let next = rank_next g.N.Node.entries g.N.Node.rank g.N.Node.IsPosition g.met.N.Node.within nodes c.args.position (omega (arith, c.len.ensures, c.if-position-len.false)) c.requires.position c.in-None.ensures.none in
    swept_next g.N.Node.entries g.N.Node.rank nodes c.sweep_one.new.nodes.items _ c.args.position c.args.dead.now c.sweep_next.result c.in-None.ensures.same next c.sweep_next.ensures.swept

pub returns-in-None-clause-none : goal.returns-in-None-clause-none
returns-in-None-clause-none g c =
    let nodes = c.args.nodes.now.items in
    let next = rank_next g.N.Node.entries g.N.Node.rank g.N.Node.IsPosition g.met.N.Node.within nodes c.args.position (omega (arith, c.len.ensures, c.if-position-len.false)) c.requires.position c.in-None.ensures.none in
    none_weaker c.sweep_next.result (past_all g.N.Node.entries g.N.Node.rank nodes c.sweep_one.new.nodes.items c.args.position c.in-None.ensures.same next) c.sweep_next.ensures.none
