use Rattle.std.proofs.Common.{take}
use Rattle.commit_status.specs.Changes.{numbers, Finishes}
use Rattle.commit_status.proofs.table.StatusTable.finish.Given as goal

abbrev pub invariant-loop-x : goal.invariant-loop-x
invariant-loop-x l = Finishes l.fn.self l.self (numbers (take l.x-index l.ids)) l.status
