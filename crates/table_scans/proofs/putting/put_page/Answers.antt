use Rattle.std.proofs.Common.{◌+◌, refl, sym, subst, arith}
use Rattle.table_scans.specs.Scans.{sight_of}
use Rattle.table_scans.specs.Takes.{ComesTo}
use Rattle.table_scans.specs.Puts.{PutsOfHeap, PutsOfPage}
use Rattle.table_scans.proofs.TakeLemmas.{none-passed}
use Rattle.table_scans.proofs.PutLemmas.{none-put, some-put, none-left}
use Rattle.table_scans.proofs.putting.put_page.Goals as goal

pub loop-page-init : goal.loop-page-init
loop-page-init c = (none-passed (sight_of c.args.heap.now c.args.reader.now) c.args.from, refl)

pub returns-then-count-gt0 : goal.returns-then-count-gt0
returns-then-count-gt0 c =
    let t = sight_of c.args.heap.now c.args.reader.now in
    let puts = subst (λ places. PutsOfPage t c.loop-page.at places c.put_rows_on-count.result.0 c.put_rows_on-count.result.1 c.put_rows_on-count.new.places) c.loop-page.invariant.1 c.put_rows_on-count.ensures in
    some-put t c.args.from c.loop-page.page c.loop-page.at c.loop-page.invariant.0 c.args.places.now c.requires
    c.put_rows_on-count.result.1 c.put_rows_on-count.result.0 c.put_rows_on-count.new.places puts c.if-count-gt0.true

pub loop-page-preserved : goal.loop-page-preserved
loop-page-preserved c =
    let t = sight_of c.args.heap.now c.args.reader.now in
    let puts = subst (λ places. PutsOfPage t c.loop-page.at places c.put_rows_on-count.result.0 c.put_rows_on-count.result.1 c.put_rows_on-count.new.places) c.loop-page.invariant.1 c.put_rows_on-count.ensures in
    let passed = none-put t c.args.from c.loop-page.page c.loop-page.at c.loop-page.invariant.0 c.args.places.now c.requires
    c.put_rows_on-count.result.1 c.put_rows_on-count.result.0 c.put_rows_on-count.new.places puts (omega (arith, c.if-count-gt0.false)) in
    (subst (ComesTo t c.args.from (c.loop-page.page + 1)) (sym c.start_of-at.ensures) passed.0, passed.1)

pub returns : goal.returns
returns c =
    let t = sight_of c.args.heap.now c.args.reader.now in
    subst (λ after. PutsOfHeap t c.args.from c.args.places.now 0 c.loop-page.at after) (sym c.loop-page.invariant.1)
    (none-left t c.args.from c.loop-page.page c.loop-page.at c.loop-page.invariant.0 c.args.places.now c.requires (omega (arith, c.loop-page-test.false, c.page_count-page-end.ensures.count)))
