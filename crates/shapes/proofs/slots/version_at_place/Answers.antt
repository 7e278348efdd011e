use Rattle.std.proofs.Common.{Option, None, subst}
use Rattle.tuple_header.specs.Version.{Version}
use Rattle.shapes.specs.Shapes.{AreVersionShapes}
use Rattle.shapes.proofs.NoPageLemmas.{no-version}
use Rattle.shapes.proofs.slots.version_at_place.Goals as goal

pub returns-in-None : goal.returns-in-None
returns-in-None c =
    subst (λ (o : Option Version). AreVersionShapes o None) (no-version c.args.engine.now.engine.core.heap.pages.pages c.args.place.page c.args.place.slot c.in-None.ensures) tt
