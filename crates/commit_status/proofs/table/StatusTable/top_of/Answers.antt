use Rattle.std.proofs.Common.{◌∙◌, sym}
use Rattle.commit_status.proofs.Ancestors.{parent-lower, parent-normal, top-parent}
use Rattle.commit_status.proofs.table.StatusTable.top_of.Goals as goal

pub ascent-smaller : goal.ascent-smaller
ascent-smaller c = parent-lower c.args.self.now c.ascent.top.0 c.in-Some.parent.0 c.fact_window.ensures (sym c.in-Some.ensures)

pub ascent-preserved : goal.ascent-preserved
ascent-preserved c = record {
  same_top = sym (top-parent c.args.self.now c.ascent.top.0 c.in-Some.parent.0 c.fact_window.ensures (sym c.in-Some.ensures)) ∙ c.ascent.invariant.same_top;
  normal = λ _. parent-normal c.args.self.now c.ascent.top.0 c.in-Some.parent.0 c.fact_window.ensures (sym c.in-Some.ensures);
}
