use Rattle.std.proofs.Common.{rules, subst, ◌≡◌, ℕ}
use Rattle.snapshot.specs.Snap.{Snap}
use Rattle.sessions.specs.declared.session.SessionIsolation.TheVariants.{BySnapshot}
use Rattle.session_steps.specs.State.{State}
use Rattle.session_steps.specs.Changes.{Opens}
use Rattle.session_steps.proofs.Outcomes.{handed-on}
use Rattle.session_steps.proofs.Hindering.{exact-barred_begin}
use Rattle.session_steps.proofs.Owns.{now_taken}
use Rattle.session_steps.proofs.Follows.{Follows-begin, Follows-begin_no_memory, Follows-barred_begin}
use Rattle.session_steps.proofs.engine.SessionEngine.begin.Goals as goal

pub returns-in_err-may_begin : goal.returns-in_err-may_begin
returns-in_err-may_begin c = record {
  follows = rw (handed-on c.from_residual.result c.from_residual.ensures.1) (Follows-barred_begin c.args.self.now c.args.s c.in_err-may_begin.field-0.0 c.in_err-may_begin.ensures);
  exact = rw (handed-on c.from_residual.result c.from_residual.ensures.1) (exact-barred_begin c.args.self.now c.args.s c.in_err-may_begin.field-0.0 c.in_err-may_begin.ensures);
}

-- it reads by the snapshot that was taken
taken-now : (st st' : State) (s : ℕ) (snap : Snap) → snap ≡ now_taken st → Opens st st' s (BySnapshot snap) → Opens st st' s (BySnapshot (now_taken st))
taken-now st st' s snap is opens = subst (λ (t : Snap). Opens st st' s (BySnapshot t)) is opens

pub returns-in-Ok : goal.returns-in-Ok
returns-in-Ok c =
    let opens = taken-now c.args.self.now c.open.new.self c.args.s c.in-Ok.snapshot c.in-Ok.ensures.ok c.open.ensures in
    record { follows = Follows-begin c.args.self.now _ c.args.s c.in_ok-may_begin.ensures.0 c.in_ok-may_begin.ensures.1 opens; exact = opens }

pub returns-in-Err : goal.returns-in-Err
returns-in-Err c = record {
  follows = Follows-begin_no_memory c.args.self.now c.args.s c.in_ok-may_begin.ensures.0 c.in_ok-may_begin.ensures.1;
  exact = search rules;
}
