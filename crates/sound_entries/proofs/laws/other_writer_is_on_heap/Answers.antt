use Rattle.sound_entries.proofs.OnHeap.{other_writer-on_heap}
use Rattle.sound_entries.proofs.laws.other_writer_is_on_heap.Goals as goal

pub returns : goal.returns
returns c = other_writer-on_heap
