use Rattle.std.proofs.Common.{refl, sym, ap, subst, Some}
use Rattle.snapshot.specs.Snap.{Snap}
use Rattle.sessions.specs.declared.session.SessionIsolation.{SessionIsolation}
use Rattle.sessions.specs.Session.{keeping, IsByStatement}
use Rattle.session_steps.proofs.engine.SessionEngine.snapshot_to_keep.Goals as goal

pub returns-in-BySnapshot-clause-kept : goal.returns-in-BySnapshot-clause-kept
returns-in-BySnapshot-clause-kept c = rw c.in-BySnapshot.is refl

pub returns-in-Ok-clause-kept : goal.returns-in-Ok-clause-kept
returns-in-Ok-clause-kept c = ap (λ (s : Snap). keeping (Some s) c.args.session.now.isolation) c.in-Ok.ensures.ok

pub returns-in-Err-clause-refused : goal.returns-in-Err-clause-refused
returns-in-Err-clause-refused c = (refl, subst (λ (i : SessionIsolation). IsByStatement i) (sym c.in-ByStatement.is) tt, c.in-Err.ensures.err)
