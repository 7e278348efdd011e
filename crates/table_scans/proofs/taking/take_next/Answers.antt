use Rattle.std.proofs.Common.{◌≡◌, ◌<◌, length, sym, subst, arith}
use Rattle.std.proofs.lemmas.Bool.Decides.{nat_tests}
use Rattle.table_scans.specs.declared.progress.Scan.{Scan}
use Rattle.table_scans.specs.Scans.{sight_of}
use Rattle.table_scans.specs.Takes.{IsAtEnd}
use Rattle.table_scans.proofs.TakeLemmas.{none-taken}
use Rattle.table_scans.proofs.taking.take_next.Goals as goal

pub returns-then-is_empty-clause-taken : goal.returns-then-is_empty-clause-taken
returns-then-is_empty-clause-taken c =
    let t = sight_of c.args.heap.now c.args.reader.now in
    let none : length c.in_ok-rows-in-Index.rows.items ≡ 0 = grind (arith, nat_tests, c.is_empty.ensures, c.if-is_empty.true) in
    let some : 0 < c.max.result = grind (arith, nat_tests, c.max.ensures) in
    subst (λ (scan : Scan). IsAtEnd t scan) (sym c.in-Index.is)
    (none-taken t c.in-Index.range c.in_ok-rows-in-Index.left c.max.result c.in_ok-rows-in-Index.rows.items c.in_ok-rows-in-Index.ensures.taken none some)
