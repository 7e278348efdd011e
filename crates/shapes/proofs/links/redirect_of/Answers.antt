use Rattle.shapes.proofs.NoPageLemmas.{no-redirect}
use Rattle.shapes.proofs.links.redirect_of.Goals as goal

pub returns-in-None : goal.returns-in-None
returns-in-None c = no-redirect c.args.engine.now.engine.core.heap.pages.pages c.args.place.page c.args.place.slot c.in-None.ensures
