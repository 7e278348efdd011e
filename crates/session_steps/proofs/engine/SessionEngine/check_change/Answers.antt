use Rattle.std.proofs.Common.{Option, subst}
use Rattle.xid_circle.specs.declared.Tid.{Tid}
use Rattle.session_steps.specs.Tests.{FindsPlace}
use Rattle.session_steps.proofs.engine.SessionEngine.check_change.Goals as goal

pub returns-in-None : goal.returns-in-None
returns-in-None c =
    let F : Option Tid → Type 0 = λ o. FindsPlace c.args.self.now.heap c.args.session.now c.args.key o in
    subst F c.in-None.is c.write_conflict-place.ensures.place
