use Rattle.std.proofs.Common.{◌+◌, List, sym, subst}
use Rattle.tuple_header.specs.declared.version.Row.{Row}
use Rattle.table_scans.specs.Scans.{sight_of, slot_on}
use Rattle.table_scans.specs.Takes.{TakesAll}
use Rattle.table_scans.proofs.Outcomes.{on-err}
use Rattle.table_scans.proofs.ScanLemmas.{row-shown, none-shown, not-first}
use Rattle.table_scans.proofs.TakeLemmas.{HasGathered, gathers-none, gathers-pass, gathers-one, meets-here, gathers-all, gathers-unused}
use Rattle.table_scans.proofs.taking.rows_on.Goals as goal
use Rattle.table_scans.proofs.taking.rows_on.Goals.{in-Some-seen_row+in_ok-add_row, in_default-seen_row}

pub returns-in_default-clause-taken : goal.returns-in_default-clause-taken
returns-in_default-clause-taken c =
    let t = sight_of c.args.heap.now c.args.reader.now in
    subst (λ (rows : List Row). TakesAll t c.args.from rows) (sym c.new-rows.ensures.items) (gathers-unused t c.args.from (sym c.in_default.ensures))

pub loop-slot-init : goal.loop-slot-init
loop-slot-init c =
    let t = sight_of c.args.heap.now c.args.reader.now in
    subst (λ (rows : List Row). HasGathered t c.args.from c.args.from.slot c.slots-slots.result rows) (sym c.new-rows.ensures.items) (gathers-none t c.args.from c.slots-slots.result)

pub returns-in_err-add_row-clause-refused : goal.returns-in_err-add_row-clause-refused
returns-in_err-add_row-clause-refused c =
    let t = sight_of c.args.heap.now c.args.reader.now in
    on-err c.from_residual.result (meets-here t c.args.from c.loop-slot.slot c.slots-slots.result c.loop-slot.rows.items c.loop-slot.invariant c.in-Some-seen_row.row
    (row-shown t (slot_on c.args.from c.loop-slot.slot) c.in-Some.page.now (sym c.in-Some.ensures) c.in-Some-seen_row.row c.in-Some-seen_row.ensures))

pub loop-slot-preserved : goal.loop-slot-preserved
loop-slot-preserved c =
    let t = sight_of c.args.heap.now c.args.reader.now in
    let p = slot_on c.args.from c.loop-slot.slot in
    let at = sym c.in-Some.ensures in
    elim c.match-seen_row.branch [
      | in-Some-seen_row+in_ok-add_row w ↦ rw w.rows-is (subst (λ (rows : List Row). HasGathered t c.args.from (c.loop-slot.slot + 1) c.slots-slots.result rows) (sym w.in_ok-add_row.ensures)
          (gathers-one t c.args.from c.loop-slot.slot c.slots-slots.result c.loop-slot.rows.items c.loop-slot.invariant w.in-Some-seen_row.row
          (row-shown t p c.in-Some.page.now at w.in-Some-seen_row.row w.in-Some-seen_row.ensures)
          (not-first t p c.in-Some.page.now at w.in-Some-seen_row.row w.in-Some-seen_row.ensures)
          c.loop-slot-test.true))
      | in_default-seen_row w ↦ rw w.rows-is (gathers-pass t c.args.from c.loop-slot.slot c.slots-slots.result c.loop-slot.rows.items c.loop-slot.invariant
          (none-shown t p c.in-Some.page.now at w.in_default-seen_row.ensures))
    ]

pub returns-clause-taken : goal.returns-clause-taken
returns-clause-taken c =
    gathers-all (sight_of c.args.heap.now c.args.reader.now) c.args.from c.loop-slot.slot c.slots-slots.result c.loop-slot.rows.items c.loop-slot.invariant
    c.in-Some.page.now (sym c.in-Some.ensures) (sym c.slots-slots.ensures.count) c.slots-slots.ensures.limit c.loop-slot-test.false
