use Rattle.std.proofs.Common.{◌+◌, List, sym, subst}
use Rattle.table_scans.proofs.SeenLemmas.{HasNoted, notes-none, notes-pass, notes-one, notes-all}
use Rattle.table_scans.proofs.seeing.seen_slots.Goals as goal
use Rattle.table_scans.proofs.seeing.seen_slots.Goals.{in-Some, in_default}

pub loop-slot-init : goal.loop-slot-init
loop-slot-init c =
    subst (λ (numbers : List _). HasNoted c.args.page.now c.args.reader.now 0 c.slots-slots.result numbers) (sym c.new-seen.ensures) (notes-none c.args.page.now c.args.reader.now c.slots-slots.result)

pub loop-slot-preserved : goal.loop-slot-preserved
loop-slot-preserved c =
    let page = c.args.page.now in
    let reader = c.args.reader.now in
    let n = c.loop-slot.slot in
    let slots = c.slots-slots.result in
    elim c.match-seen_row.branch [
      | in-Some w ↦ rw w.seen-is (subst (λ (numbers : List _). HasNoted page reader (n + 1) slots numbers) (sym w.push.ensures.items)
          (notes-one page reader n slots c.loop-slot.seen.items c.loop-slot.invariant w.in-Some.field-0 w.in-Some.ensures c.loop-slot-test.true))
      | in_default w ↦ rw w.seen-is (notes-pass page reader n slots c.loop-slot.seen.items c.loop-slot.invariant w.in_default.ensures)
    ]

pub returns-clause-rows : goal.returns-clause-rows
returns-clause-rows c =
    notes-all c.args.page.now c.args.reader.now c.loop-slot.slot c.slots-slots.result c.loop-slot.seen.items c.loop-slot.invariant
    (sym c.slots-slots.ensures.count) c.slots-slots.ensures.limit c.loop-slot-test.false
