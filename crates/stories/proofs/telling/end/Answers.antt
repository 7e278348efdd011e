use Rattle.stories.proofs.PictureLemmas.{picture-fault}
use Rattle.stories.proofs.telling.end.Goals as goal

pub returns-in-Err-clause-fault : goal.returns-in-Err-clause-fault
returns-in-Err-clause-fault c = rw c.fault_of.ensures (picture-fault c.args.engine.now c.in-Err.fault c.in-Err.ensures.fault)
