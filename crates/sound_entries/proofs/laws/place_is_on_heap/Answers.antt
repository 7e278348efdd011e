use Rattle.sound_entries.proofs.OnHeap.{place-on_heap}
use Rattle.sound_entries.proofs.laws.place_is_on_heap.Goals as goal

pub returns : goal.returns
returns c = place-on_heap
