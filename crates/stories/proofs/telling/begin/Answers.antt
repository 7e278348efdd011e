use Rattle.stories.proofs.PictureLemmas.{begun}
use Rattle.stories.proofs.telling.begin.Goals as goal

pub returns : goal.returns
returns c = begun c.explain_line.result c.args.engine.now.engine.core c.args.line.now _ _ _ c.in_ok-head.ensures c.explain_line.ensures
