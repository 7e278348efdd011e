use Rattle.session_looks.proofs.ShownLemmas.{shown-there}
use Rattle.session_looks.proofs.explaining.explain_on.Goals as goal

pub returns : goal.returns
returns c =
    shown-there c.args.engine.now c.args.session.now c.reader-reader.result c.args.page.now c.args.place c.args.n c.shown_version.result c.reader-reader.ensures
    c.requires c.shown_version.ensures
