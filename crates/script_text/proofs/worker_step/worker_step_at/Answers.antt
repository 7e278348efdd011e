use Rattle.script_text.proofs.WorkerLaws.{spells_read}
use Rattle.script_text.proofs.worker_step.worker_step_at.Goals as goal

pub returns : goal.returns
returns c = spells_read _ _ c.read_worker.ensures
