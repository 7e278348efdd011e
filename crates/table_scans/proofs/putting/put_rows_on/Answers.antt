use Rattle.std.proofs.Common.{◌+◌, sym, subst, ap, arith}
use Rattle.std.proofs.Math.ListN.{length-set}
use Rattle.table_scans.specs.Scans.{sight_of, slot_on}
use Rattle.table_scans.specs.Puts.{PutsOfPage}
use Rattle.table_scans.proofs.ScanLemmas.{row-shown, none-shown}
use Rattle.table_scans.proofs.PutLemmas.{puts-none, puts-unused, puts-pass, puts-one, puts-last, puts-all}
use Rattle.table_scans.proofs.putting.put_rows_on.Goals as goal
use Rattle.table_scans.proofs.putting.put_rows_on.Goals.{in-Some-seen_beside+else-count-places, in_default-seen_beside}

pub returns-in_default : goal.returns-in_default
returns-in_default c = puts-unused (sight_of c.args.heap.now c.args.reader.now) c.args.from c.args.places.now (sym c.in_default.ensures)

pub loop-slot-init : goal.loop-slot-init
loop-slot-init c = (puts-none (sight_of c.args.heap.now c.args.reader.now) c.args.from c.args.places.now (c.slots-end.result + 1) c.requires, tt)

pub returns-then-count-places : goal.returns-then-count-places
returns-then-count-places c =
    let t = sight_of c.args.heap.now c.args.reader.now in
    puts-last t c.args.from c.args.places.now c.loop-slot.slot (c.slots-end.result + 1) c.loop-slot.count c.loop-slot.places c.loop-slot.invariant.0 c.in-Some-seen_beside.row _ c.put_into.new.place c.loop-slot-test.true
    (row-shown t (slot_on c.args.from c.loop-slot.slot) c.in-Some.page.now (sym c.in-Some.ensures) c.in-Some-seen_beside.row c.in-Some-seen_beside.ensures.row) c.put_into.ensures
    (let same = c.loop-slot.auto.places in omega (arith, c.if-count-places.true, length-set c.loop-slot.places c.loop-slot.count c.put_into.new.place))

pub loop-slot-preserved : goal.loop-slot-preserved
loop-slot-preserved c =
    let t = sight_of c.args.heap.now c.args.reader.now in
    let p = slot_on c.args.from c.loop-slot.slot in
    let at = sym c.in-Some.ensures in
    elim c.match-seen_beside.branch [
      | in-Some-seen_beside+else-count-places w ↦ rw (w.places-is, w.count-is) (
        (puts-one t c.args.from c.args.places.now c.loop-slot.slot (c.slots-end.result + 1) c.loop-slot.count c.loop-slot.places c.loop-slot.invariant.0 w.in-Some-seen_beside.row _ w.put_into.new.place c.loop-slot-test.true
            (row-shown t p c.in-Some.page.now at w.in-Some-seen_beside.row w.in-Some-seen_beside.ensures.row) w.put_into.ensures
            (let room = c.loop-slot.invariant.0.room in let same = c.loop-slot.auto.places in omega (arith, w.if-count-places.false, length-set c.loop-slot.places c.loop-slot.count w.put_into.new.place))),
        c.seen_beside.ensures.counted,
      )
      | in_default-seen_beside w ↦ rw (w.places-is, w.count-is) (
        (puts-pass t c.args.from c.args.places.now c.loop-slot.slot (c.slots-end.result + 1) c.loop-slot.count c.loop-slot.places c.loop-slot.invariant.0 c.loop-slot-test.true
            (none-shown t p c.in-Some.page.now at w.in_default-seen_beside.ensures.row)),
        c.seen_beside.ensures.counted,
      )
    ]

pub returns : goal.returns
returns c =
    let t = sight_of c.args.heap.now c.args.reader.now in
    subst (λ n. PutsOfPage t c.args.from c.args.places.now c.loop-slot.count n c.loop-slot.places) (sym c.max.ensures)
    (puts-all t c.args.from c.args.places.now c.loop-slot.slot (c.slots-end.result + 1) c.loop-slot.count c.loop-slot.places c.loop-slot.invariant.0
    c.in-Some.page.now (sym c.in-Some.ensures) (ap (λ n. n + 1) (sym c.slots-end.ensures.count)) c.loop-slot-test.false)
