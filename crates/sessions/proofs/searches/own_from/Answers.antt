use Rattle.std.proofs.Common.{ℕ, List, subst}
use Rattle.std.specs.Prelude.{Contains}
use Rattle.sessions.proofs.OwnFrom.{open-there}
use Rattle.sessions.proofs.searches.own_from.Goals as goal

pub returns-then-not-are_from : goal.returns-then-not-are_from
returns-then-not-are_from c = (
  λ h. absurd (cc h),
  λ all. c.if-not-are_from.ensures.1 (λ x mine.
      all c.loop-s.s c.in-Some.session x (open-there c.args.sessions.now c.loop-s.s c.index-sessions-s.result c.in-Some.session c.loop-s-test.true c.index-sessions-s.is c.in-Some.is)
      (subst (λ (ids : List ℕ). Contains ids x) c.as_slice.ensures mine)),
)
