use Rattle.std.proofs.Common.{ℕ, ◌+◌, ◌≤◌, List, length, sym, ◌∙◌, subst, arith}
use Rattle.std.proofs.lemmas.List.{drop_all}
use Rattle.prune.proofs.Roots.{IsMarkingPage, marking-root, marking-other, marking-all}
use Rattle.prune.specs.declared.marks.PruneVerdict.{PruneVerdict}
use Rattle.prune.proofs.marks.mark_page.Goals.{then-is_root, else-is_root}
use Rattle.prune.proofs.marks.mark_page.Goals as goal

pub loop-root-preserved : goal.loop-root-preserved
loop-root-preserved c =
    let w = c.args.statuses.now in
    let slots = c.args.page.now.slots in
    let i : ℕ = c.loop-root.root-index in
    elim c.if-is_root.branch [
      | then-is_root b ↦ subst (λ (m : List PruneVerdict). IsMarkingPage w c.args.horizon.0 slots c.args.doubtful.now m (i + 1)) (sym b.marks-is)
          (marking-root w c.args.horizon.0 slots c.args.doubtful.now c.loop-root.marks _ i c.loop-root.invariant c.loop-root-test.true
          (sym c.is_root.ensures ∙ b.if-is_root.true) b.mark_root.ensures)
      | else-is_root b ↦ subst (λ (m : List PruneVerdict). IsMarkingPage w c.args.horizon.0 slots c.args.doubtful.now m (i + 1)) (sym b.marks-is)
          (marking-other w c.args.horizon.0 slots c.args.doubtful.now _ i c.loop-root.invariant c.loop-root-test.true (sym c.is_root.ensures ∙ b.if-is_root.false))
    ]

pub returns : goal.returns
returns c =
    let past : length c.args.doubtful.now ≤ c.loop-root.root-index = omega (arith, c.loop-root-test.false) in
    marking-all c.args.statuses.now c.args.horizon.0 c.args.page.now.slots c.args.doubtful.now c.loop-root.marks c.loop-root.root-index c.loop-root.invariant
    (drop_all c.loop-root.root-index c.args.doubtful.now past)
