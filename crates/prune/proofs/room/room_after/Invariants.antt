use Rattle.std.proofs.Common.{drop}
use Rattle.prune.specs.Actions.{applied}
use Rattle.prune.proofs.RoomLemmas.{IsReckoned}
use Rattle.prune.proofs.room.room_after.Given as goal

abbrev pub invariant-loop-action : goal.invariant-loop-action
invariant-loop-action l = IsReckoned (drop l.action-index l.plan.actions.items) l.page (applied l.plan.actions.items l.page) l.free_bytes l.has_unused
