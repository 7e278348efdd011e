use Rattle.std.proofs.Common.{◌≡◌, ◌∙◌, ◌++◌, ◌<◌, sum_by, sym, ap, subst, arith}
use Rattle.std.proofs.lemmas.List.Sums.{sum_by-append}
use Rattle.index_nodes.specs.Nodes.{AreNeat}
use Rattle.index_nodes.proofs.RowEditLemmas.{all_back, half_front, half_back, rank_half_front, rank_half_back}
use Rattle.index_nodes.proofs.branch.BranchNode.split.Goals as goal
use Rattle.index_nodes.proofs.branch.BranchNode.split.Goals.{then-position-lt-HALF, else-position-lt-HALF}

pub returns-clause-neat_too : goal.returns-clause-neat_too
returns-clause-neat_too g c =
    let is : c.move_half.new.lower.items ++ c.move_half.new.upper.items ≡ c.args.self.now = c.move_half.ensures.nodes ∙ c.self.view_is in
    let whole = subst (AreNeat g.N.Node.IsNeat g.N.Node.size) (sym is) c.requires.neat in
    all_back (λ n. g.N.Node.IsNeat n × (0 < g.N.Node.size n)) c.move_half.new.lower.items c.move_half.new.upper.items whole

pub returns-clause-position : goal.returns-clause-position
returns-clause-position g c =
    let is : c.move_half.new.lower.items ++ c.move_half.new.upper.items ≡ c.args.self.now = c.move_half.ensures.nodes ∙ c.self.view_is in
    let half = c.move_half.ensures.half in
    elim c.if-position-lt-HALF.branch [
      | then-position-lt-HALF w ↦
          half_front g.N.Node.entries g.N.Node.rank g.N.Node.IsPosition c.move_half.new.lower.items c.move_half.new.upper.items c.args.self.now c.args.position c.if-position-lt-HALF.result is
          w.result-is c.requires.position (omega (arith, w.if-position-lt-HALF.true))
      | else-position-lt-HALF w ↦
          half_back g.N.Node.entries g.N.Node.rank g.N.Node.IsPosition c.move_half.new.lower.items c.move_half.new.upper.items c.args.self.now c.args.position c.if-position-lt-HALF.result is
          64 w.result-is c.requires.position half (omega (arith, w.if-position-lt-HALF.false))
    ]

pub returns-clause-rank : goal.returns-clause-rank
returns-clause-rank g c =
    let is : c.move_half.new.lower.items ++ c.move_half.new.upper.items ≡ c.args.self.now = c.move_half.ensures.nodes ∙ c.self.view_is in
    let half = c.move_half.ensures.half in
    elim c.if-position-lt-HALF.branch [
      | then-position-lt-HALF w ↦
          rank_half_front g.N.Node.entries g.N.Node.rank g.N.Node.IsPosition c.move_half.new.lower.items c.move_half.new.upper.items c.args.self.now c.args.position c.if-position-lt-HALF.result is
          w.result-is (omega (arith, w.if-position-lt-HALF.true))
      | else-position-lt-HALF w ↦
          rank_half_back g.N.Node.entries g.N.Node.rank g.N.Node.IsPosition c.move_half.new.lower.items c.move_half.new.upper.items c.args.self.now c.args.position c.if-position-lt-HALF.result is
          64 w.result-is half (omega (arith, w.if-position-lt-HALF.false))
    ]

pub returns-clause-nodes : goal.returns-clause-nodes
returns-clause-nodes g c =
    let is : c.move_half.new.lower.items ++ c.move_half.new.upper.items ≡ c.args.self.now = c.move_half.ensures.nodes ∙ c.self.view_is in
    let all = ap (sum_by g.N.Node.nodes) is in
    let both = sum_by-append g.N.Node.nodes c.move_half.new.lower.items c.move_half.new.upper.items in
    omega (arith, all, both)

pub returns-clause-long : goal.returns-clause-long
returns-clause-long g c =
    let is : c.move_half.new.lower.items ++ c.move_half.new.upper.items ≡ c.args.self.now = c.move_half.ensures.nodes ∙ c.self.view_is in
    let all = ap (sum_by g.N.Node.long) is in
    let both = sum_by-append g.N.Node.long c.move_half.new.lower.items c.move_half.new.upper.items in
    omega (arith, all, both)
