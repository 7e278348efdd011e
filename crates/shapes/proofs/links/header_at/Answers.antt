use Rattle.shapes.proofs.NoPageLemmas.{no-header}
use Rattle.shapes.proofs.links.header_at.Goals as goal

pub returns-in-None : goal.returns-in-None
returns-in-None c = no-header c.args.engine.now.engine.core.heap.pages.pages c.args.page c.args.slot c.in-None.ensures
