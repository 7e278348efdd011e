use Rattle.std.proofs.Common.{◌≡◌, List, Option, Some, sym, ap, ◌∙◌, subst}
use Rattle.xid_circle.specs.declared.Xid.{Xid}
use Rattle.sessions.specs.declared.session.Session.{Session}
use Rattle.sessions.specs.Places.{open_at}
use Rattle.session_steps.specs.State.{State}
use Rattle.session_steps.proofs.Searches.{Misses, Holds, held-active}
use Rattle.session_steps.proofs.SessionReader.{place-read, late-read, held-read}
use Rattle.session_steps.proofs.engine.SessionEngine.write_conflict.Goals as goal

pub returns-in-Some-clause-place : goal.returns-in-Some-clause-place
returns-in-Some-clause-place c = place-read _ c.args.self.now c.args.session.now c.reader.result c.self.view_is c.reader.ensures c.args.key c.check_write.result.0.place c.check_write.ensures.place

pub returns-in-Some-owner-clause-place : goal.returns-in-Some-owner-clause-place
returns-in-Some-owner-clause-place c = place-read _ c.args.self.now c.args.session.now c.reader.result c.self.view_is c.reader.ensures c.args.key c.check_write.result.0.place c.check_write.ensures.place

pub returns-clause-place : goal.returns-clause-place
returns-clause-place c = place-read _ c.args.self.now c.args.session.now c.reader.result c.self.view_is c.reader.ensures c.args.key c.check_write.result.0.place c.check_write.ensures.place

pub returns-in-Some-clause-write_conflict : goal.returns-in-Some-clause-write_conflict
returns-in-Some-clause-write_conflict c =
    let e = c.args.session.now in
    let h = c.args.self.now.heap in
    let newer_commit = late-read _ c.args.self.now e c.reader.result c.self.view_is c.reader.ensures c.args.key c.check_write.result.0.newer_commit c.check_write.ensures.newer_commit in
    record { id = c.in-Some.field-0.0; late = subst (λ (o : Option Xid). Misses h e c.args.key o) c.in-Some.is newer_commit }

pub returns-clause-write_conflict : goal.returns-clause-write_conflict
returns-clause-write_conflict c =
    let e = c.args.session.now in
    let h = c.args.self.now.heap in
    let newer_commit = late-read _ c.args.self.now e c.reader.result c.self.view_is c.reader.ensures c.args.key c.check_write.result.0.newer_commit c.check_write.ensures.newer_commit in
    let held = held-read _ c.args.self.now e c.reader.result c.self.view_is c.reader.ensures c.args.key c.check_write.result.0.other_writer c.check_write.ensures.other_writer in
    record {
      timely = subst (λ (o : Option Xid). Misses h e c.args.key o) c.in_default.is newer_commit;
      unheld = subst (λ (o : Option Xid). Holds h e c.args.key o) c.in-None.is held;
    }

-- each id in progress is an open session's
pub unreachable-requires : goal.unreachable-requires
unreachable-requires c =
    let e = c.args.session.now in
    let x = c.in-Some-other_writer.x.0 in
    let answer = held-read _ c.args.self.now e c.reader.result c.self.view_is c.reader.ensures c.args.key c.check_write.result.0.other_writer c.check_write.ensures.other_writer in
    let inside = subst (λ (st : State). Holds st.heap e c.args.key c.check_write.result.0.other_writer) (sym c.self.view_is) answer in
    let held = subst (λ (o : Option Xid). Holds c.self.inside.heap e c.args.key o) c.in-Some-other_writer.is inside in
    let owned = c.self.invariant.own.owned x (held-active c.self.inside.heap e c.args.key x held) in
    c.in-None-owner.ensures owned.0 owned.1 (c.places_in_use.ensures.each owned.0 ∙ owned.2) owned.3

pub returns-in-Some-owner-clause-write_conflict : goal.returns-in-Some-owner-clause-write_conflict
returns-in-Some-owner-clause-write_conflict c =
    let e = c.args.session.now in
    let h = c.args.self.now.heap in
    let newer_commit = late-read _ c.args.self.now e c.reader.result c.self.view_is c.reader.ensures c.args.key c.check_write.result.0.newer_commit c.check_write.ensures.newer_commit in
    let held = held-read _ c.args.self.now e c.reader.result c.self.view_is c.reader.ensures c.args.key c.check_write.result.0.other_writer c.check_write.ensures.other_writer in
    let sessions_are = ap (λ (st : State). st.sessions) c.self.view_is in
    let f = c.in-Some-owner.ensures in
    let O : List (Option Session) → Type 0 = λ xs. open_at xs c.in-Some-owner.o ≡ Some f.0 in
    record {
      timely = subst (λ (o : Option Xid). Misses h e c.args.key o) c.in_default.is newer_commit;
      id = c.in-Some-other_writer.x.0;
      held = subst (λ (o : Option Xid). Holds h e c.args.key o) c.in-Some-other_writer.is held;
      other = f.0;
      at = subst O sessions_are (sym (c.places_in_use.ensures.each c.in-Some-owner.o) ∙ f.1);
      owns = f.2;
    }
