use Rattle.std.proofs.Common.{◌≡◌, ◌+◌, length, sym, subst, arith}
use Rattle.std.proofs.lemmas.Bool.Decides.{nat_tests}
use Rattle.table_scans.specs.Scans.{sight_of}
use Rattle.table_scans.specs.Takes.{ComesTo}
use Rattle.table_scans.proofs.Outcomes.{on-err}
use Rattle.table_scans.proofs.TakeLemmas.{none-passed, one-passed, taken-here, meets-later, all-passed}
use Rattle.table_scans.proofs.taking.rows_of_page.Goals as goal

pub loop-page-init : goal.loop-page-init
loop-page-init c = none-passed (sight_of c.args.heap.now c.args.reader.now) c.args.from

pub returns-in_err-rows-clause-refused : goal.returns-in_err-rows-clause-refused
returns-in_err-rows-clause-refused c =
    on-err c.from_residual.result (meets-later (sight_of c.args.heap.now c.args.reader.now) c.args.from c.loop-page.page c.loop-page.at c.loop-page.invariant c.in_err-rows.ensures.refused)

pub loop-page-preserved : goal.loop-page-preserved
loop-page-preserved c =
    let none : length c.in_ok-rows.rows.items ≡ 0 = grind (arith, nat_tests, c.is_empty.ensures, c.if-not-is_empty.false) in
    subst (ComesTo (sight_of c.args.heap.now c.args.reader.now) c.args.from (c.loop-page.page + 1)) (sym c.start_of-at.ensures)
    (one-passed (sight_of c.args.heap.now c.args.reader.now) c.args.from c.loop-page.page c.loop-page.at c.loop-page.invariant c.in_ok-rows.rows.items c.in_ok-rows.ensures.taken none)

pub returns-then-not-is_empty-clause-taken : goal.returns-then-not-is_empty-clause-taken
returns-then-not-is_empty-clause-taken c =
    let limit = c.page_count-page-end.ensures.limit in (
      grind (arith, nat_tests, c.is_empty.ensures, c.if-not-is_empty.true),
      omega (arith, c.loop-page-test.true),
      taken-here (sight_of c.args.heap.now c.args.reader.now) c.args.from c.loop-page.page c.loop-page.at c.loop-page.invariant c.in_ok-rows.rows.items c.in_ok-rows.ensures.taken,
    )

pub returns-clause-taken : goal.returns-clause-taken
returns-clause-taken c =
    all-passed (sight_of c.args.heap.now c.args.reader.now) c.args.from c.loop-page.page c.loop-page.at c.loop-page.invariant
    (omega (arith, c.loop-page-test.false, c.page_count-page-end.ensures.count))
