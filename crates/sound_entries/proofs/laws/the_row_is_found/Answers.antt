use Rattle.sound_entries.proofs.OnHeap.{the_row-found}
use Rattle.sound_entries.proofs.laws.the_row_is_found.Goals as goal

pub returns : goal.returns
returns c = the_row-found
