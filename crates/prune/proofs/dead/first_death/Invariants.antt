use Rattle.std.proofs.Common.{◌+◌, ◌-◌, ◌≤◌, length}
use Rattle.commit_status.specs.Window.{IsAborted}
use Rattle.prune.specs.Deaths.{IsTurnThere}
use Rattle.prune.proofs.Cuts.{LiveBelow}
use Rattle.prune.proofs.dead.first_death.Given as goal

abbrev pub invariant-loop-number : goal.invariant-loop-number
invariant-loop-number l = LiveBelow l.statuses l.horizon.0 l.page.slots l.number l.outlook.turn × (IsAborted l.statuses l.outlook.known.0 → ⊥) × (1 ≤ l.number) × (l.number ≤ length l.page.slots + 1)
    × IsTurnThere l.statuses l.outlook.turn l.page.slots

abbrev pub decreases-loop-number : goal.decreases-loop-number
decreases-loop-number l = length l.page.slots + 1 - l.number
