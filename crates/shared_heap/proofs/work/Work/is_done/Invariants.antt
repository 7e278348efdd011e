use Rattle.std.proofs.Common.{◌≡◌, ◌<◌, ℕ, []}
use Rattle.shared_heap.specs.Work.{left_of}
use Rattle.shared_heap.proofs.work.Work.is_done.Given as goal

abbrev pub invariant-loop-worker : goal.invariant-loop-worker
invariant-loop-worker g l = (v : ℕ) → v < l.worker → left_of l.self.lists l.self.done v ≡ []
