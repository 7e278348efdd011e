use Rattle.std.proofs.Common.{rules}
use Rattle.history.specs.World.{beginning}
use Rattle.refinement.proofs.Runs.{lawful}
use Rattle.session_core.proofs.Running.{Leads-run, Leads-ran}
use Rattle.session_core.proofs.runs.run.Goals as goal

pub returns-in-Err-NoMemory-clause-fault : goal.returns-in-Err-NoMemory-clause-fault
returns-in-Err-NoMemory-clause-fault c = search rules

pub returns-in-Ok-replies_to-clause-run : goal.returns-in-Ok-replies_to-clause-run
returns-in-Ok-replies_to-clause-run c = (Leads-run (beginning c.args.settings.indexed) c.in-Ok.engine c.args.steps.now c.in-Ok-replies_to.replies.items _ c.in-Ok.ensures.new.agrees c.in-Ok-replies_to.ensures.led).0

pub returns-in-Ok-replies_to-clause-ran : goal.returns-in-Ok-replies_to-clause-ran
returns-in-Ok-replies_to-clause-ran c = Leads-ran c.args.settings c.in-Ok.engine c.args.steps.now c.in-Ok-replies_to.replies.items _ c.in-Ok.ensures.new c.in-Ok-replies_to.ensures.led

pub returns-in-Ok-replies_to-clause-lawful : goal.returns-in-Ok-replies_to-clause-lawful
returns-in-Ok-replies_to-clause-lawful c =
    lawful c.args.settings.indexed c.args.steps.now c.in-Ok-replies_to.replies.items (Leads-run (beginning c.args.settings.indexed) c.in-Ok.engine c.args.steps.now c.in-Ok-replies_to.replies.items _ c.in-Ok.ensures.new.agrees c.in-Ok-replies_to.ensures.led).0
