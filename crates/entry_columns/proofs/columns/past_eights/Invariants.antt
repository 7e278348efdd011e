use Rattle.std.proofs.Common.{◌≤◌, ◌-◌, length}
use Rattle.entry_columns.specs.Gaps.{AreOutsideFrom}
use Rattle.entry_columns.proofs.columns.past_eights.Given as goal

-- those so far are outside
abbrev pub invariant-loop-place : goal.invariant-loop-place
invariant-loop-place l = record {
  from : l.from ≤ l.place;
  end : l.place ≤ length l.places;
  outside : AreOutsideFrom l.places l.from l.place l.span.least l.span.more;
}

abbrev pub decreases-loop-place : goal.decreases-loop-place
decreases-loop-place l = length l.places - l.place
