use Rattle.std.proofs.Common.{◌≢◌}
use Rattle.commit_status.specs.Changes.{numbers}
use Rattle.commit_status.specs.declared.status.Status.TheVariants.{Aborted}
use Rattle.heap_write.proofs.HintLemmas.{hints-finished}
use Rattle.heap_write.proofs.heap.HeapState.finish.Goals as goal

pub invariant_of-self-in_default : goal.invariant_of-self-in_default
invariant_of-self-in_default c =
    let live : c.args.status ≢ Aborted = c.in_default.not-Aborted in
    (c.self.invariant.0, hints-finished c.self.inside.statuses c.finish.new.self (numbers c.args.ids.now) c.args.status c.self.inside.pages.pages c.self.inside.hints.pages live c.finish.ensures c.self.invariant.1)
