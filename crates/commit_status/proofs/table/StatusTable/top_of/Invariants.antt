use Rattle.std.proofs.Common.{◌≡◌}
use Rattle.xid_circle.specs.Circle.{IsNormal}
use Rattle.commit_status.specs.Window.{place, top_of}
use Rattle.commit_status.proofs.Ancestors.{height}
use Rattle.commit_status.proofs.table.StatusTable.top_of.Given as goal

abbrev pub invariant-ascent : goal.invariant-ascent
invariant-ascent l = record {
  same_top : top_of l.self l.top.0 ≡ top_of l.self l.fn.x.0;
  normal : IsNormal l.fn.x.0 → IsNormal l.top.0;
}

abbrev pub decreases-ascent : goal.decreases-ascent
decreases-ascent l = height (place l.self l.top.0)
