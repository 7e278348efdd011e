use Rattle.commit_status.proofs.Tables.{table-kept}
use Rattle.commit_status.proofs.table.StatusTable.make_room.Goals as goal

pub invariant_of-self : goal.invariant_of-self
invariant_of-self c = table-kept _ _ _ _ _ _ _ c.reserve.ensures.items c.self.invariant
