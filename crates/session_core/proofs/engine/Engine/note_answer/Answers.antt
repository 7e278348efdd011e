use Rattle.std.proofs.Common.{Ok, Err, sym, ap, subst, ◌∙◌}
use Rattle.session_steps.specs.Replies.{reply_to}
use Rattle.session_core.specs.Notes.{NotesWait}
use Rattle.session_core.proofs.Waits.{notes-done, notes-refused}
use Rattle.session_core.proofs.engine.Engine.note_answer.Goals as goal

pub returns-in-Ok : goal.returns-in-Ok
returns-in-Ok c = subst (λ answer. NotesWait c.args.self.now c.args.s c.args.gives (reply_to answer) c.end_wait.new.self (reply_to (Ok c.in-Ok.done))) (sym c.in-Ok.is)
    (notes-done c.args.self.now c.args.s c.args.gives c.in-Ok.done c.end_wait.new.self c.end_wait.ensures)

pub returns-in-Busy : goal.returns-in-Busy
returns-in-Busy c = subst (λ answer. NotesWait c.args.self.now c.args.s c.args.gives (reply_to answer) c.wait_for.new.self (reply_to (Err c.wait_for.result))) (sym (c.in-Err.is ∙ ap Err c.in-Busy.is)) c.wait_for.ensures

pub returns-in_default : goal.returns-in_default
returns-in_default c = subst (λ answer. NotesWait c.args.self.now c.args.s c.args.gives (reply_to answer) c.end_wait-in_default.new.self (reply_to (Err c.in-Err.refusal))) (sym c.in-Err.is)
    (notes-refused c.args.self.now c.args.s c.args.gives c.in-Err.refusal c.end_wait-in_default.new.self c.in_default.not-Busy c.end_wait-in_default.ensures)
