use Rattle.std.proofs.Common.{◌<◌, ◌-◌, arith}
use Rattle.prune.proofs.Glancing.{glancing-more, glancing-push, glancing-passed}
use Rattle.prune.proofs.glance.list_backwards.Goals as goal

pub loop-number-preserved-in-Stays : goal.loop-number-preserved-in-Stays
loop-number-preserved-in-Stays c =
    let g = c.loop-number.invariant in
    glancing-more c.args.statuses.now c.args.page.now.slots c.loop-number.doubtful.items c.loop-number.noted c.loop-number.known.0 c.loop-number.known.0 c.loop-number.number
    g c.in-Stays.ensures g.unaborted

pub loop-number-preserved-then-inserter-known : goal.loop-number-preserved-then-inserter-known
loop-number-preserved-then-inserter-known c =
    let g = c.loop-number.invariant in
    let w = c.args.statuses.now in
    let slots = c.args.page.now.slots in
    glancing-passed w slots c.loop-number.doubtful.items c.loop-number.noted c.loop-number.known.0 (c.loop-number.number - 1) c.last_unlike-number.result
    c.last_unlike-number.ensures.bound c.last_unlike-number.ensures.passed
    (glancing-more w slots c.loop-number.doubtful.items c.loop-number.noted c.loop-number.known.0 c.loop-number.known.0 c.loop-number.number g c.in-PlainVersion.ensures.0 g.unaborted)

pub loop-number-preserved-else-inserter-known : goal.loop-number-preserved-else-inserter-known
loop-number-preserved-else-inserter-known c =
    glancing-more c.args.statuses.now c.args.page.now.slots c.loop-number.doubtful.items c.loop-number.noted c.loop-number.known.0 c.in-PlainVersion.inserter.0 c.loop-number.number
    c.loop-number.invariant c.in-PlainVersion.ensures.0 c.in-PlainVersion.ensures.1

pub loop-number-preserved : goal.loop-number-preserved
loop-number-preserved c =
    let g = c.loop-number.invariant in
    let few = g.few in
    let small : c.loop-number.number < 292 = omega (arith, c.slots-number.ensures.count, c.slots-number.ensures.limit) in
    rw (c.push.ensures.items, c.from.ensures)
    (glancing-push c.args.statuses.now c.args.page.now.slots c.loop-number.doubtful.items c.loop-number.noted c.loop-number.known.0 c.loop-number.number
    c.loop-number-test.true (omega (arith, g.long, small)) g)
