use Rattle.shapes.proofs.NoPageLemmas.{no-slots}
use Rattle.shapes.proofs.pages.slot_count.Goals as goal

pub returns-in-None : goal.returns-in-None
returns-in-None c = no-slots c.args.engine.now.engine.core.heap.pages.pages c.args.number c.in-None.ensures
