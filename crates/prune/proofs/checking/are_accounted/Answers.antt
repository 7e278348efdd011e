use Rattle.std.proofs.Common.{◌≤◌, arith}
use Rattle.prune.specs.Named.{IsLooseRight}
use Rattle.prune.proofs.Prefixes.{refused, taken, off-because}
use Rattle.prune.proofs.NamedLemmas.{so-far}
use Rattle.prune.proofs.checking.are_accounted.Goals as goal

pub returns-then-not-is_allowed : goal.returns-then-not-is_allowed
returns-then-not-is_allowed c = off-because _ (λ all. refused c.is_allowed.result _ c.if-not-is_allowed.true c.is_allowed.ensures
    (all c.loop-number.number (omega (arith, c.loop-number.auto.number)) (omega (arith, c.loop-number-test.true, c.slots-number-end.ensures.count))))

pub loop-number-preserved : goal.loop-number-preserved
loop-number-preserved c = λ n from lt. so-far (λ n. 1 ≤ n → IsLooseRight c.args.statuses.now c.args.page.now.slots c.args.marks.now c.args.named.now n) c.loop-number.number
    (λ k lt from. c.loop-number.invariant k from lt) (λ _. taken c.is_allowed.result _ c.if-not-is_allowed.false c.is_allowed.ensures) n lt from
