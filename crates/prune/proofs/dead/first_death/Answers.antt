use Rattle.std.proofs.Common.{ℕ, ◌+◌, ◌<◌, ◌≤◌, length, arith}
use Rattle.prune.specs.Deaths.{IsTurnThere}
use Rattle.prune.proofs.Cuts.{live-none, live-more, live-all, next-turn}
use Rattle.prune.proofs.Passed.{live-passed}
use Rattle.prune.proofs.dead.first_death.Goals as goal

pub loop-number-init : goal.loop-number-init
loop-number-init c =
    let w = c.args.statuses.now in
    let turn = next-turn w c.next.result.0 c.turn_of.result c.unwrap_or.result c.fact_window.ensures c.next.ensures.value c.turn_of.ensures c.unwrap_or.ensures in (
      live-none w c.args.horizon.0 c.args.page.now.slots c.unwrap_or.result (omega arith),
      (λ e. absurd (cc)),
      (omega arith),
      (omega arith),
      IsTurnThere.of_next turn,
    )

pub loop-number-preserved : goal.loop-number-preserved
loop-number-preserved c =
    let found = c.in-Some.ensures in
    let w = c.args.statuses.now in
    let slots = c.args.page.now.slots in
    let number : ℕ = c.loop-number.number in
    let within : number ≤ length slots = omega (arith, c.slots.ensures.count, c.loop-number-test.true) in
    let next : ℕ = c.number_after-number.result in
    let forward = c.number_after-number.ensures.forward in
    let upto = c.number_after-number.ensures.upto in
    let below = live-more w c.args.horizon.0 slots number c.loop-number.outlook.turn c.in-Some.next.turn found.1 c.loop-number.invariant.0 found.0 in (
      live-passed w c.args.horizon.0 slots c.in-Some.next.turn c.in-Some.next.known.0 (number + 1) next found.2 (omega arith) forward upto c.number_after-number.ensures.passed below,
      found.2,
      (omega arith),
      upto,
      found.3 c.loop-number.invariant.4,
    )

pub returns : goal.returns
returns c =
    let past : length c.args.page.now.slots < c.loop-number.number = omega (arith, c.slots.ensures.count, c.loop-number-test.false) in
    let live = live-all c.args.statuses.now c.args.horizon.0 c.args.page.now.slots c.loop-number.number c.loop-number.outlook.turn past c.loop-number.invariant.0 in
    (live.0, live.1, c.loop-number.invariant.4)
