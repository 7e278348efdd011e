use Rattle.std.proofs.Common.{◌≡◌, None}
use Rattle.page_layout.specs.Faults.{slot_fault, first_among}
use Rattle.page_layout.proofs.check.first_slot_fault_of.Given as goal

abbrev pub invariant-loop-index : goal.invariant-loop-index
invariant-loop-index l = first_among (slot_fault l.bytes) l.index ≡ None
