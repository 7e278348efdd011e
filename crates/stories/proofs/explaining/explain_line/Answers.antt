use Rattle.stories.proofs.ExplainingLemmas.{line-read}
use Rattle.stories.proofs.explaining.explain_line.Goals as goal

pub returns : goal.returns
returns c = line-read c.explain_read.result c.args.engine.now.engine.core c.args.line.now c.in_ok-read.read _ _ c.in_ok-read.ensures c.explain_read.ensures
