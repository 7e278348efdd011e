use Rattle.calls.specs.declared.step.Step.TheVariants as step
use Rattle.plain_history.specs.Plain.{world_of}
use Rattle.judge.proofs.Reasoning.{done_due}
use Rattle.judge.proofs.due.due_making.Goals as goal

pub returns-in-Due : goal.returns-in-Due
returns-in-Due c = rw c.in-Due.is at c.of_making.ensures

pub returns-in-Free : goal.returns-in-Free
returns-in-Free c = done_due (world_of c.args.plain.now) (step.CreateIndex c.args.column) (rw c.in-Free.is at c.of_making.ensures)
