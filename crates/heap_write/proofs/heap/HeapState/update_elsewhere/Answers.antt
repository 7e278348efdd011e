use Rattle.std.proofs.Common.{subst}
use Rattle.tuple_header.specs.Version.{rounded_size_of}
use Rattle.heap_write.specs.Steps.{IsChosen}
use Rattle.heap_write.proofs.Writing.{replaces-elsewhere}
use Rattle.heap_write.proofs.heap.HeapState.update_elsewhere.Goals as goal

pub returns-in-Some-clause-replaces : goal.returns-in-Some-clause-replaces
returns-in-Some-clause-replaces c =
    let h = c.args.self.now in
    let size = rounded_size_of c.args.row.now in
    replaces-elsewhere h c.cold_update.new.self c.args.place c.cold_update.result.0 c.args.row.now c.in-Some.target c.requires.may.there c.requires.room
    (subst (λ found. IsChosen h size found) c.in-Some.is c.requires.chosen) c.cold_update.ensures.replaces
