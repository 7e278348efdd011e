use Rattle.shapes.specs.Shapes.{version_of_place}
use Rattle.shapes.proofs.NoPageLemmas.{no-version, none-there}
use Rattle.shapes.proofs.dots.holds_version.Goals as goal

pub returns-in-None : goal.returns-in-None
returns-in-None c =
    none-there (version_of_place c.args.engine.now.engine.core c.args.place) (no-version c.args.engine.now.engine.core.heap.pages.pages c.args.place.page c.args.place.slot c.in-None.ensures)
