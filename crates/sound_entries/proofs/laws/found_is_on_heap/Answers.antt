use Rattle.sound_entries.proofs.OnHeap.{found-on_heap}
use Rattle.sound_entries.proofs.laws.found_is_on_heap.Goals as goal

pub returns : goal.returns
returns c = found-on_heap
