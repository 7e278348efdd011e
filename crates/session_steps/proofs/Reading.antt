-- What a session reads.
use Rattle.std.proofs.Common.{◌≡◌, ℕ, Option, Some, false}
use Rattle.tuple_header.specs.declared.version.Row.{Row}
use Rattle.history.specs.World.{World, OpenSession, view}
use Rattle.calls.specs.declared.step.Step.TheVariants as step
use Rattle.calls.specs.declared.reply.Reply.TheVariants as reply
use Rattle.refinement.proofs.Follows as theory
use Rattle.sessions.specs.declared.session.Session.{Session}
use Rattle.session_steps.specs.State.{State, session_at, seen, reader_of}
use Rattle.session_steps.specs.Agrees.{Agrees, Follows}
use Rattle.session_steps.proofs.Searches.{RowOf, row-to}
use Rattle.session_steps.proofs.Owns.{reader-is}
use Rattle.session_steps.proofs.Follows.{Follows-same}

pub Follows-get : (st : State) (s : ℕ) (e : Session) (k : ℕ) (found : Option Row) → session_at st s ≡ Some e → e.failed ≡ false → RowOf st e k found → Follows st (step.Get s k) (reply.Found found) st
Follows-get st s e k found at sound finds = λ w agrees.
    Follows-same st (step.Get s k) (reply.Found found) tt (theory.Follows-get (seen st) s (reader_of e) k found (reader-is st s e at) sound (row-to st w s e k found agrees at finds)) w agrees

-- it is the session's view, also after it has failed
pub reads-view : (st : State) (w : World) (s : ℕ) (e : Session) (k : ℕ) (found : Option Row) → Agrees st w → session_at st s ≡ Some e → RowOf st e k found
    → (m : OpenSession) × (w.session s ≡ Some m) × (found ≡ view w.history m k)
reads-view st w s e k found agrees at finds =
    let there = reader-is st s e at in
    let open_ = agrees.found.opened s (reader_of e) there in
    (open_.0, open_.1, theory.found_is_view (seen st) w s (reader_of e) k found there agrees.found (row-to st w s e k found agrees at finds))
