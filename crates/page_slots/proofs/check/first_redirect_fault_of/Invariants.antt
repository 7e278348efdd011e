use Rattle.std.proofs.Common.{◌≡◌, None}
use Rattle.page_slots.specs.Faults.{redirect_fault}
use Rattle.page_layout.specs.Faults.{first_among}
use Rattle.page_slots.proofs.check.first_redirect_fault_of.Given as goal

abbrev pub invariant-loop-index : goal.invariant-loop-index
invariant-loop-index l = first_among (redirect_fault l.bytes) l.index ≡ None
