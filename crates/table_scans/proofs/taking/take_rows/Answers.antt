use Rattle.std.proofs.Common.{◌+◌, List, Some, sym, subst, arith}
use Rattle.tuple_header.specs.declared.version.Row.{Row}
use Rattle.table_scans.specs.Scans.{sight_of}
use Rattle.table_scans.proofs.Outcomes.{on-err}
use Rattle.table_scans.proofs.TakeLemmas.{HasMet, none-met, one-met, meets-next, all-met}
use Rattle.table_scans.proofs.taking.take_rows.Goals as goal

pub returns-in_err-add_row-in-Some-clause-refused : goal.returns-in_err-add_row-in-Some-clause-refused
returns-in_err-add_row-in-Some-clause-refused c =
    on-err c.from_residual.result (meets-next (sight_of c.args.heap.now c.args.reader.now) c.args.range c.loop.left c.loop.counter c.loop.rows.items c.loop.invariant c.in-Some.position c.in-Some.row c.in-Some.ensures)

pub returns-in-None-clause-taken : goal.returns-in-None-clause-taken
returns-in-None-clause-taken c =
    all-met (sight_of c.args.heap.now c.args.reader.now) c.args.range c.loop.left c.loop.counter c.loop.rows.items c.loop.invariant c.args.count (omega (arith, c.loop-test.true)) c.in-None.ensures

pub loop-init : goal.loop-init
loop-init c =
    let t = sight_of c.args.heap.now c.args.reader.now in
    subst (λ (rows : List Row). HasMet t c.args.range c.args.range 0 rows) (sym c.new-rows.ensures.items) (none-met t c.args.range)

pub loop-preserved : goal.loop-preserved
loop-preserved c =
    subst (HasMet (sight_of c.args.heap.now c.args.reader.now) c.args.range (record c.loop.left { last = Some c.in-Some.position }) (c.loop.counter + 1)) (sym c.in_ok-add_row-in-Some.ensures)
    (one-met (sight_of c.args.heap.now c.args.reader.now) c.args.range c.loop.left c.loop.counter c.loop.rows.items c.loop.invariant c.in-Some.position c.in-Some.row c.in-Some.ensures)
