use Rattle.std.proofs.Common.{rules, ℕ, List, ◌++◌, Option, sym, ap, ◌∙◌, refl, subst}
use Rattle.std.specs.Prelude.{Contains, IsSome}
use Rattle.std.proofs.lemmas.List.Elements.{Contains-append_right}
use Rattle.commit_status.specs.Changes.{numbers}
use Rattle.snapshot.specs.Own.{newest}
use Rattle.table_scans.specs.declared.progress.CursorScan.{CursorScan}
use Rattle.heap_write.specs.Heap.{HeapView}
use Rattle.session_steps.specs.State.{State, session_at}
use Rattle.session_steps.specs.Changes.{RollsBack}
use Rattle.sessions.proofs.Taking.{none-unless}
use Rattle.session_steps.proofs.Giving.{with_write}
use Rattle.session_steps.proofs.Outcomes.{handed-on}
use Rattle.session_steps.proofs.Savepoints.{Follows-nowhere_to_return, Follows-closed_roll_back_to, Follows-barred_roll_back_to}
use Rattle.session_steps.proofs.Returning.{returned}
use Rattle.session_steps.proofs.Noting.{none-saved, some-there, only-statuses, keeps-returned, Follows-returned}
use Rattle.session_steps.proofs.engine.SessionEngine.rollback_to.Goals as goal

pub returns-in_err-session : goal.returns-in_err-session
returns-in_err-session c = record {
  follows = rw (handed-on c.from_residual.result c.from_residual.ensures.1) (Follows-closed_roll_back_to c.args.self.now c.args.s c.in_err-session.field-0.0 c.in_err-session.ensures);
  exact = search rules;
}

pub returns-in-Some : goal.returns-in-Some
returns-in-Some c = record {
  follows = (
      let P : Option CursorScan → Type 0 = λ o. IsSome o in
      Follows-barred_roll_back_to c.args.self.now c.args.s c.in_ok-session.session.now c.in_ok-session.ensures.1 (subst P (sym c.in-Some.is) refl));
  exact = search rules;
}

pub returns-then-savepoints-eq0 : goal.returns-then-savepoints-eq0
returns-then-savepoints-eq0 c = record {
  follows = (
      let e = c.in_ok-session.session.now in
      let bare = none-unless e.cursor c.in_default.not-Some in
      Follows-nowhere_to_return c.args.self.now c.args.s e c.in_ok-session.ensures.1 bare (none-saved e.own.saved (sym c.savepoints.ensures ∙ c.if-savepoints-eq0.true)));
  exact = search rules;
}

-- the session that was found has a savepoint, and is the one that is changed
pub since_savepoint-requires : goal.since_savepoint-requires
since_savepoint-requires c =
    let there = ap (λ (st : State). session_at st c.args.s) (sym c.self.view_is) ∙ c.open_mut-session.ensures.value in
    some-there c.args.self.now c.args.s c.in_ok-session.session.now c.open_mut-session.result.now c.in_ok-session.ensures.1 there (λ none. c.if-savepoints-eq0.false (c.savepoints.ensures ∙ none))

pub roll_back-requires : goal.roll_back-requires
roll_back-requires c =
    let there = ap (λ (st : State). session_at st c.args.s) (sym c.self.view_is) ∙ c.open_mut-session.ensures.value in
    some-there c.args.self.now c.args.s c.in_ok-session.session.now c.open_mut-session.result.now c.in_ok-session.ensures.1 there (λ none. c.if-savepoints-eq0.false (c.savepoints.ensures ∙ none))

pub finish-requires : goal.finish-requires
finish-requires c = λ x among.
    let e = c.open_mut-session.result.now in
    let P : List ℕ → Type 0 = λ ids. Contains ids x in
    c.self.invariant.own.active c.args.s e x c.open_mut-session.ensures.value (subst P (sym c.since_savepoint.ensures) (Contains-append_right (newest e.own.saved) _ x among))

pub invariant_of-self : goal.invariant_of-self
invariant_of-self c =
    let e = c.open_mut-session.result.now in
    let own = c.roll_back.new.self in
    let f = c.finish in
    let since = numbers c.since_savepoint.result.now in
    keeps-returned c.self.inside.sessions c.self.inside.heap f.new.self c.args.s e (returned e own) since c.open_mut-session.ensures.value (c.since_savepoint.ensures ∙ ap (λ xs. xs ++ since) (sym c.roll_back.ensures.ids)) f.ensures.finishes
    c.self.invariant

pub returns : goal.returns
returns c =
    let e = c.open_mut-session.result.now in
    let own = c.roll_back.new.self in
    let f = c.finish in
    let since = numbers c.since_savepoint.result.now in
    let before : State = record { settings = c.self.inside.settings; heap = c.self.inside.heap; sessions = c.self.inside.sessions } in
    let after = with_write before f.new.self c.args.s (returned e own) in
    let R : State → Type 0 = λ st. RollsBack st after c.args.s in
    let rolls = subst R c.self.view_is (record {
      session = e;
      at = c.open_mut-session.ensures.value;
      own = own;
      is = ap (λ (h : HeapView). with_write before h c.args.s (returned e own)) (only-statuses before.heap f.new.self f.ensures.pages f.ensures.indexes f.ensures.max_pages);
      ids = c.roll_back.ensures.ids;
      saved = c.roll_back.ensures.saved;
      since = since;
      were = c.since_savepoint.ensures ∙ ap (λ xs. xs ++ since) (sym c.roll_back.ensures.ids);
      finishes = f.ensures.finishes;
      window = f.ensures.window;
    }) in
    let found = c.in_ok-session.session.now in
    record {
      follows = Follows-returned c.args.self.now after c.args.s found c.in_ok-session.ensures.1 (none-unless found.cursor c.in_default.not-Some) (λ none. c.if-savepoints-eq0.false (c.savepoints.ensures ∙ none)) rolls;
      exact = rolls;
    }
