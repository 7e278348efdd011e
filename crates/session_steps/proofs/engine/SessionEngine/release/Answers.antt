use Rattle.std.proofs.Common.{rules, Some, sym, ap, ◌∙◌}
use Rattle.sessions.specs.declared.session.Session.{Session}
use Rattle.session_steps.specs.State.{State, session_at, put_session}
use Rattle.session_steps.proofs.Returning.{Releases}
use Rattle.session_steps.proofs.StateLemmas.{keeps-ids}
use Rattle.session_steps.proofs.Outcomes.{handed-on}
use Rattle.session_steps.proofs.Savepoints.{Follows-nothing_to_release, Follows-barred_release}
use Rattle.session_steps.proofs.Noting.{none-saved, some-there, Follows-forgotten}
use Rattle.session_steps.proofs.engine.SessionEngine.release.Goals as goal

pub returns-in_err-free : goal.returns-in_err-free
returns-in_err-free c = record {
  follows = rw (handed-on c.from_residual.result c.from_residual.ensures.1) (Follows-barred_release c.args.self.now c.args.s c.in_err-free.field-0.0 c.in_err-free.ensures);
  exact = search rules;
}

pub returns-then-savepoints-eq0 : goal.returns-then-savepoints-eq0
returns-then-savepoints-eq0 c = record {
  follows = (
      let e = c.in_ok-free.field-0.now in
      Follows-nothing_to_release c.args.self.now c.args.s e c.in_ok-free.ensures.1 c.in_ok-free.ensures.2 c.in_ok-free.ensures.3 (none-saved e.own.saved (sym c.savepoints.ensures ∙ c.if-savepoints-eq0.true)));
  exact = search rules;
}

-- the session that was found has a savepoint, and is the one that is changed
pub release-requires : goal.release-requires
release-requires c =
    let there = ap (λ (st : State). session_at st c.args.s) (sym c.self.view_is) ∙ c.open_mut.ensures.value in
    some-there c.args.self.now c.args.s c.in_ok-free.field-0.now c.open_mut.result.now c.in_ok-free.ensures.1 there (λ none. c.if-savepoints-eq0.false (c.savepoints.ensures ∙ none))

pub invariant_of-self : goal.invariant_of-self
invariant_of-self c = keeps-ids c.self.inside.sessions c.self.inside.heap.statuses c.args.s c.open_mut.result.now (record c.open_mut.result.now { own = c.release.new.self }) c.open_mut.ensures.value c.release.ensures.ids c.self.invariant

pub returns : goal.returns
returns c =
    let e = c.open_mut.result.now in
    let now : Session = record e { own = c.release.new.self } in
    let there = ap (λ (st : State). session_at st c.args.s) (sym c.self.view_is) ∙ c.open_mut.ensures.value in
    let is = ap (λ (st : State). put_session st c.args.s (Some now)) c.self.view_is in
    let releases : Releases e.own c.release.new.self = record { ids = c.release.ensures.ids; saved = c.release.ensures.saved } in
    record {
      follows = Follows-forgotten c.args.self.now _ c.args.s c.in_ok-free.field-0.now e c.release.new.self c.in_ok-free.ensures there (λ none. c.if-savepoints-eq0.false (c.savepoints.ensures ∙ none)) is releases;
      exact = record { session = e; at = there; own = c.release.new.self; is = is; ids = releases.ids; saved = releases.saved };
    }
