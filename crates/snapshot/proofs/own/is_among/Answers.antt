use Rattle.std.proofs.Common.{arith}
use Rattle.snapshot.proofs.Marks.{nowhere}
use Rattle.snapshot.proofs.own.is_among.Goals as goal

pub returns : goal.returns
returns c = (
  λ h. absurd (cc),
  λ found. absurd (nowhere c.args.ids.now c.args.x.0 (λ k h. c.loop-id.invariant k (omega arith)) found),
)
