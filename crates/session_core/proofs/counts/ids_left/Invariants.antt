use Rattle.std.proofs.Common.{◌-◌, ◌≤◌, ◌<◌}
use Rattle.commit_status.specs.Changes.{CanGive}
use Rattle.session_core.proofs.counts.ids_left.Given as goal

-- so many can be given, and so many cannot
abbrev pub invariant-halves : goal.invariant-halves
invariant-halves l = record {
  can : CanGive l.statuses l.can;
  cannot : ¬ CanGive l.statuses l.cannot;
  apart : l.can < l.cannot;
  bound : l.cannot ≤ 2144483649;
}

abbrev pub decreases-halves : goal.decreases-halves
decreases-halves l = l.cannot - l.can
