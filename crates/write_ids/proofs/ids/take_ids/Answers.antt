use Rattle.std.proofs.Common.{◌<◌, ◌≤◌, subst}
use Rattle.write_ids.proofs.IdLemmas.{giving-lacking, giving-one, giving-newest}
use Rattle.write_ids.proofs.ids.take_ids.Goals as goal

pub loop-preserved : goal.loop-preserved
loop-preserved c =
    let lt = subst (λ n. c.loop.counter < n) c.unassigned_levels-end.ensures c.loop-test.true in
    let lacking = giving-lacking c.args.statuses.now c.args.own.now c.loop.statuses c.loop.own c.loop.counter c.loop.invariant lt in
    let done = c.give_id.ensures in
    giving-one c.args.statuses.now c.args.own.now c.loop.statuses c.loop.own c.loop.counter c.give_id.new.statuses c.give_id.new.own c.loop.invariant lacking
    done.gives done.ids done.saved done.spare done.own_spare done.window

pub unreachable-requires : goal.unreachable-requires
unreachable-requires c =
    let le = subst (λ n. n ≤ c.loop.counter) c.unassigned_levels-end.ensures c.loop-test.false in
    giving-newest c.args.statuses.now c.args.own.now c.loop.statuses c.loop.own c.loop.counter c.loop.invariant le c.in-None.ensures.value
