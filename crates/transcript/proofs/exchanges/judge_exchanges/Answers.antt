use Rattle.std.proofs.Common.{arith, refl, ◌∙◌}
use Rattle.transcript.proofs.ExchangeLemmas.{Progress-start, Progress-went, further_on, ends_wrong}
use Rattle.transcript.proofs.exchanges.judge_exchanges.Goals as goal

pub loop-at-init : goal.loop-at-init
loop-at-init c = (Progress-start _ _ _ _ c.requires, refl)

pub loop-at-smaller : goal.loop-at-smaller
loop-at-smaller c =
    let n = rw c.in-Ok-Some.field-0-is at c.in-Ok-Some.ensures.next in
    let more = further_on c.args.text.now n.0.asked n.0.answer c.loop-at.at c.in-Ok-Some.past.next c.loop-at.invariant.0.within n.4 in
    let to = n.4.1 in
    omega (arith, more, to)

pub loop-at-preserved : goal.loop-at-preserved
loop-at-preserved c =
    let n = rw c.in-Ok-Some.field-0-is at c.in-Ok-Some.ensures.next in (
      Progress-went c.args.begins _ _ _ c.args.text.now _ _ c.args.from c.loop-at.at c.in-Ok-Some.past.next c.loop-at.allowed c.loop-at.left_open c.in-Ok-Some.past.allowed c.in-Ok-Some.past.left_open c.loop-at.invariant.0 n,
      n.5 ∙ c.loop-at.invariant.1,
    )

pub returns-in-Ok-None : goal.returns-in-Ok-None
returns-in-Ok-None c =
    let n = rw (c.in-Ok-None.field-0-is, c.loop-at.invariant.1) at c.in-Ok-None.ensures.next in
    ends_wrong c.args.begins _ _ _ c.args.text.now c.args.from c.loop-at.at c.loop-at.allowed c.loop-at.left_open n.0 n.1 n.2 _ _ c.loop-at.invariant.0 n.3
