-- The rows of a page are handed out at once.
use Rattle.std.proofs.Common.{◌≡◌, ℕ, refl, sym, ◌∙◌, subst}
use Rattle.std.specs.Prelude.{Vec}
use Rattle.std.specs.declared.alloc.Global.{Global}
use Rattle.std.proofs.lemmas.Option.{same_Some}
use Rattle.tuple_header.specs.declared.version.Row.{Row}
use Rattle.history.specs.World.{OpenSession, view}
use Rattle.history.specs.Cursors.{AreOf}
use Rattle.calls.specs.declared.step.Step.TheVariants as step
use Rattle.calls.specs.declared.reply.Reply.TheVariants as reply
use Rattle.calls.specs.declared.reply.Refusal.{Refusal}
use Rattle.calls.specs.declared.reply.Refusal.TheVariants as refusal
use Rattle.refinement.proofs.Follows as theory
use Rattle.session_steps.specs.State.{State, seen, reader_of}
use Rattle.session_steps.specs.Agrees.{Follows}
use Rattle.session_steps.specs.Tickets.{SeesOnPage, RefusesRows}
use Rattle.session_steps.specs.Exact.{AnswersStep}
use Rattle.session_steps.proofs.Owns.{reader-is}
use Rattle.session_steps.proofs.Follows.{Follows-same, stays-so, unready_by}
use Rattle.session_steps.proofs.TicketLemmas.{rows-viewed}

Follows-page_rows : (st : State) (s p : ℕ) (rows : Vec Row Global) → SeesOnPage st s p rows.items → Follows st (step.TakePage s p) (reply.Rows rows) st
Follows-page_rows st s p rows sees w agrees =
    let there = reader-is st s sees.session sees.there in
    let open_ = agrees.found.opened s (reader_of sees.session) there in
    let viewed = rows-viewed st s p rows.items sees w agrees in
    let same : viewed.0 ≡ open_.0 = same_Some viewed.0 open_.0 (sym viewed.1 ∙ open_.1) in
    let of : AreOf (view w.history open_.0) rows.items = subst (λ (m : OpenSession). AreOf (view w.history m) rows.items) same viewed.2 in
    stays-so st w (step.TakePage s p) (reply.Rows rows) tt agrees (theory.rows-follow (seen st) s p (reader_of sees.session) rows there sees.sound w agrees.found of)

pub page-answered : (st : State) (s p : ℕ) (rows : Vec Row Global) → SeesOnPage st s p rows.items → AnswersStep st (step.TakePage s p) (reply.Rows rows) st
page-answered st s p rows sees = record { follows = Follows-page_rows st s p rows sees; exact = (sees, refl) }

Follows-page_refused : (st : State) (s p : ℕ) (r : Refusal) → RefusesRows st s p r → Follows st (step.TakePage s p) (reply.Refused r) st
Follows-page_refused st s p refusal.NoSuchPage is = Follows-same st (step.TakePage s p) (reply.Refused refusal.NoSuchPage) tt
    (theory.Follows-page_refused (seen st) s p (reader_of is.0.0) refusal.NoSuchPage (reader-is st s is.0.0 is.0.2) is.0.3 (λ w m ready. (m, ready)))
Follows-page_refused st s p refusal.NoMemory is = Follows-same st (step.TakePage s p) (reply.Refused refusal.NoMemory) tt
    (theory.Follows-page_refused (seen st) s p (reader_of is.1.session) refusal.NoMemory (reader-is st s is.1.session is.1.there) is.1.sound (λ w m ready. (m, ready)))
Follows-page_refused st s p r is = Follows-same st (step.TakePage s p) (reply.Refused r) tt (theory.Follows-unready_page (seen st) s p r (unready_by st s r is))

pub page-refused : (st : State) (s p : ℕ) (r : Refusal) → RefusesRows st s p r → AnswersStep st (step.TakePage s p) (reply.Refused r) st
page-refused st s p r is = record { follows = Follows-page_refused st s p r is; exact = (is, refl) }
