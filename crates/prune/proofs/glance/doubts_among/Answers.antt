use Rattle.std.proofs.Common.{ℕ, ◌+◌, List, Option, sym, subst, refl}
use Rattle.prune.proofs.Doubting.{AreDoubtsUpTo, upto-plain, upto-added, upto-all}
use Rattle.prune.proofs.glance.doubts_among.Goals.{then-not-is_plain_at, else-not-is_plain_at}
use Rattle.prune.proofs.glance.doubts_among.Goals as goal

pub loop-number-preserved : goal.loop-number-preserved
loop-number-preserved c =
    let w = c.args.statuses.now in
    let slots = c.args.page.now.slots in
    let doubtful = c.args.doubtful.now in
    let i = c.loop-number.number-index in
    elim c.if-not-is_plain_at.branch [
      | then-not-is_plain_at b ↦
          subst (λ (known : Option (List ℕ)). AreDoubtsUpTo w slots doubtful (i + 1) known) (sym b.doubts-is)
          (upto-added w slots doubtful i _ c.loop-number.doubts b.with_doubt-doubts.result refl b.with_doubt-doubts.ensures c.loop-number.invariant)
      | else-not-is_plain_at b ↦
          subst (λ (known : Option (List ℕ)). AreDoubtsUpTo w slots doubtful (i + 1) known) (sym b.doubts-is)
          (upto-plain w slots doubtful i _ c.loop-number.doubts refl (c.is_plain_at.ensures b.if-not-is_plain_at.false) c.loop-number.invariant)
    ]

pub returns : goal.returns
returns c =
    upto-all c.args.statuses.now c.args.page.now.slots c.args.doubtful.now c.loop-number.number-index c.loop-number.doubts c.loop-number-test.false c.requires c.loop-number.invariant
