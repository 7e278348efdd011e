use Rattle.sound_entries.proofs.OnHeap.{newer_commit-on_heap}
use Rattle.sound_entries.proofs.laws.newer_commit_is_on_heap.Goals as goal

pub returns : goal.returns
returns c = newer_commit-on_heap
