use Rattle.std.proofs.Common.{◌≢◌, ℕ, ◌+◌, get_or, arith, sym, subst}
use Rattle.prune.specs.Glances.{IsPlainAt, AreDoubts}
use Rattle.prune.proofs.OnlyDoubt.{IsOnlyUpTo, only-more, only-found, only-all}
use Rattle.prune.proofs.one_doubt.only_doubt.Goals.{then-number-ne0+then-number-only+then-not-is_plain_at+else-only-ne0, else-number-ne0, else-number-ne0-via-then-number-ne0+then-number-only+else-not-is_plain_at, else-number-ne0-via-then-number-ne0+else-number-only, else-number-ne0-via-else-number-ne0}
use Rattle.prune.proofs.one_doubt.only_doubt.Goals as goal

pub loop-number-preserved : goal.loop-number-preserved
loop-number-preserved c =
    let w = c.args.statuses.now in
    let slots = c.args.page.now.slots in
    let numbers = c.in_ok-numbers.numbers in
    let i : ℕ = c.loop-number.number-index in
    let number : ℕ = get_or numbers i 0 in
    elim c.if-number-ne0.branch [
      | then-number-ne0+then-number-only+then-not-is_plain_at+else-only-ne0 b ↦
          only-found w slots numbers i c.if-number-ne0.only b.only-is
          (subst (λ (only : ℕ). IsOnlyUpTo w slots numbers i only) b.if-only-ne0.false c.loop-number.invariant)
      | else-number-ne0 b ↦
          let here : number ≢ 0 → number ≢ c.loop-number.only → IsPlainAt w slots number = λ some other.
          elim b.else-number-ne0.branch [
            | else-number-ne0-via-then-number-ne0+then-number-only+else-not-is_plain_at k ↦ k.is_plain_at.ensures k.if-not-is_plain_at.false
            | else-number-ne0-via-then-number-ne0+else-number-only k ↦ absurd (other k.if-number-only.false)
            | else-number-ne0-via-else-number-ne0 k ↦ absurd (some k.if-number-ne0.false)
          ] in
          subst (λ (only : ℕ). IsOnlyUpTo w slots numbers (i + 1) only) (sym b.only-is) (only-more w slots numbers i c.loop-number.only here c.loop-number.invariant)
    ]

pub returns : goal.returns
returns c =
    only-all c.args.statuses.now c.args.page.now.slots c.in_ok-numbers.numbers c.loop-number.number-index c.loop-number.only
    (omega (arith, c.loop-number-test.false)) (subst (AreDoubts c.args.statuses.now c.args.page.now.slots) c.in_ok-numbers.was c.requires.known) c.loop-number.invariant
