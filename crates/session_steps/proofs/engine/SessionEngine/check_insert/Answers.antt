use Rattle.std.proofs.Common.{Option, subst}
use Rattle.xid_circle.specs.declared.Tid.{Tid}
use Rattle.session_steps.specs.Tests.{FindsPlace}
use Rattle.session_steps.proofs.Searches.{may-insert}
use Rattle.session_steps.proofs.engine.SessionEngine.check_insert.Goals as goal

pub returns-in-Some : goal.returns-in-Some
returns-in-Some c =
    let F : Option Tid → Type 0 = λ o. FindsPlace c.args.self.now.heap c.args.session.now c.args.key o in
    (c.in-Some.field-0, subst F c.in-Some.is c.write_conflict-place.ensures.place)

pub returns-in-None : goal.returns-in-None
returns-in-None c =
    let F : Option Tid → Type 0 = λ o. FindsPlace c.args.self.now.heap c.args.session.now c.args.key o in
    may-insert c.args.self.now c.args.session.now c.args.key c.write_conflict-place.result.1 (subst F c.in-None.is c.write_conflict-place.ensures.place) c.write_conflict-place.ensures.write_conflict
