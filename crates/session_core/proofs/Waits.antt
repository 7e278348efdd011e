-- What the reply of the engine below makes of the waits.
use Rattle.std.proofs.Common.{◌≡◌, ◌≢◌, ℕ, None, Ok, Bool, not, ◌&&◌, cond, set, refl}
use Rattle.calls.specs.declared.reply.Reply.{Reply}
use Rattle.calls.specs.declared.reply.Reply.TheVariants as reply
use Rattle.calls.specs.declared.reply.Refusal.{Refusal}
use Rattle.calls.specs.declared.reply.Refusal.TheVariants as refusal
use Rattle.session_steps.specs.declared.outcome.Ack.{Ack}
use Rattle.session_steps.specs.declared.outcome.Ack.TheVariants.{Done, Committed, RolledBack}
use Rattle.session_steps.specs.Replies.{reply_to}
use Rattle.session_core.specs.State.{WaitingView, woken, with_waits}
use Rattle.session_core.specs.Notes.{was_refused, NotesWait}

-- no wait begins
pub notes-other : (old : WaitingView) (s : ℕ) (gives : Bool) (given : Reply) (new : WaitingView) → ((o : ℕ) → given ≢ reply.Refused (refusal.Busy o))
    → new ≡ with_waits old.engine (cond (not (was_refused given) && gives) (woken s (set old.waits s None)) (set old.waits s None)) → NotesWait old s gives given new given
notes-other old s gives (reply.Refused (refusal.Busy o)) new other is = absurd (other o refl)
notes-other old s gives (reply.Refused r) new other is = (refl, is)
notes-other old s gives given new other is = (refl, is)

-- a step was done that hands out no row
pub notes-done : (old : WaitingView) (s : ℕ) (gives : Bool) (done : Ack) (new : WaitingView) → new ≡ with_waits old.engine (cond gives (woken s (set old.waits s None)) (set old.waits s None))
    → NotesWait old s gives (reply_to (Ok done)) new (reply_to (Ok done))
notes-done old s gives Done new is = (refl, is)
notes-done old s gives Committed new is = (refl, is)
notes-done old s gives RolledBack new is = (refl, is)

-- or was refused, but not by Busy
pub notes-refused : (old : WaitingView) (s : ℕ) (gives : Bool) (r : Refusal) (new : WaitingView) → ((o : ℕ) → r ≢ refusal.Busy o) → new ≡ with_waits old.engine (set old.waits s None)
    → NotesWait old s gives (reply.Refused r) new (reply.Refused r)
notes-refused old s gives (refusal.Busy o) new never is = absurd (never o refl)
notes-refused old s gives r new never is = (refl, is)
