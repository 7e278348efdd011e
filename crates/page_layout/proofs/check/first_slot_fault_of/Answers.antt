use Rattle.std.proofs.Common.{sym}
use Rattle.page_layout.specs.Faults.{slot_fault}
use Rattle.page_layout.proofs.FirstLemmas.{first-found}
use Rattle.page_layout.proofs.check.first_slot_fault_of.Goals as goal

pub returns-in-Some : goal.returns-in-Some
returns-in-Some c =
    sym (first-found (slot_fault c.args.bytes.now) c.loop-index.index c.args.count c.in-Some.fault c.loop-index-test.true c.loop-index.invariant (sym c.in-Some.ensures))
