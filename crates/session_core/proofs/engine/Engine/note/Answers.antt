use Rattle.std.proofs.Common.{◌∙◌, cond, set, None, sym, ap, subst}
use Rattle.calls.specs.declared.reply.Reply.TheVariants as reply
use Rattle.session_core.specs.State.{woken, with_waits}
use Rattle.session_core.specs.Notes.{NotesWait}
use Rattle.session_core.proofs.Waits.{notes-other}
use Rattle.session_core.proofs.engine.Engine.note.Goals as goal

pub returns-in_default : goal.returns-in_default
returns-in_default c =
    let old = c.args.self.now in
    let s = c.args.s in
    notes-other old s c.args.gives c.args.reply.now c.end_wait.new.self c.in_default.ensures
    (c.end_wait.ensures ∙ ap (λ gave. with_waits old.engine (cond gave (woken s (set old.waits s None)) (set old.waits s None))) c.gave_back-gave.ensures)

pub returns : goal.returns
returns c = subst (λ given. NotesWait c.args.self.now c.args.s c.args.gives given c.wait_for.new.self (reply.Refused c.wait_for.result)) (sym c.in-Some.ensures) c.wait_for.ensures
