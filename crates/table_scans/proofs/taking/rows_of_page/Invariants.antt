use Rattle.table_scans.specs.Scans.{sight_of}
use Rattle.table_scans.specs.Takes.{ComesTo}
use Rattle.table_scans.proofs.taking.rows_of_page.Given as goal

abbrev pub invariant-loop-page : goal.invariant-loop-page
invariant-loop-page l = ComesTo (sight_of l.heap l.reader) l.fn.from l.page l.at
