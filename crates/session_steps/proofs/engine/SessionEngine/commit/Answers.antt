use Rattle.std.proofs.Common.{rules}
use Rattle.session_steps.proofs.Outcomes.{handed-on}
use Rattle.session_steps.proofs.Follows.{Follows-commit, Follows-commit_failed, Follows-closed_commit}
use Rattle.session_steps.proofs.engine.SessionEngine.commit.Goals as goal

pub returns-in_err-open_session : goal.returns-in_err-open_session
returns-in_err-open_session c = record {
  follows = rw (handed-on c.from_residual.result c.from_residual.ensures.1) (Follows-closed_commit c.args.self.now c.args.s c.in_err-open_session.field-0.0 c.in_err-open_session.ensures);
  exact = search rules;
}

pub returns-then-branch : goal.returns-then-branch
returns-then-branch c = record {
  follows = Follows-commit_failed c.args.self.now _ c.args.s c.in_ok-open_session.field-0.now c.in_ok-open_session.ensures.1 c.if-branch.true c.close.ensures;
  exact = search rules;
}

pub returns-else-branch : goal.returns-else-branch
returns-else-branch c = record {
  follows = Follows-commit c.args.self.now _ c.args.s c.in_ok-open_session.field-0.now c.in_ok-open_session.ensures.1 c.if-branch.false c.close-else-branch.ensures;
  exact = search rules;
}
