use Rattle.stories.proofs.PictureLemmas.{first-ended}
use Rattle.stories.proofs.telling.tell_first.Goals as goal

pub returns-clause-told : goal.returns-clause-told
returns-clause-told c = first-ended c.end.result c.args.engine.now c.args.line.now _ _ _ c.in-Ok-head.ensures c.end.ensures.ended
