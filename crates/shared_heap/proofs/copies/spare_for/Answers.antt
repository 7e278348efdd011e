use Rattle.std.proofs.Common.{min, arith}
use Rattle.shared_heap.proofs.Rooms.{room-more}
use Rattle.shared_heap.proofs.copies.spare_for.Goals as goal

pub returns : goal.returns
returns c =
    let rows = c.in_ok-rows.ensures.capacity in
    let keys = c.in_ok-keys.ensures.capacity in
    room-more c.args.engine.now c.args.step.now c.most_rows-most.result (min c.in_ok-rows.rows.cap c.in_ok-keys.keys.cap) (omega (arith, rows, keys)) c.most_rows-most.ensures
