use Rattle.std.proofs.Common.{sym, subst}
use Rattle.table_scans.specs.declared.progress.Scan.TheVariants.{Index, Heap}
use Rattle.table_scans.specs.Scans.{sight_of}
use Rattle.table_scans.specs.Puts.{PutsNext}
use Rattle.table_scans.proofs.PutLemmas.{next-of_index, next-of_heap}
use Rattle.table_scans.proofs.putting.put_scan.Goals as goal

pub returns-in-Index : goal.returns-in-Index
returns-in-Index c =
    let t = sight_of c.args.heap.now c.args.reader.now in
    subst (λ scan. PutsNext t scan c.args.places.now c.put_rows-count.result.0 (Index c.put_rows-count.result.1) c.put_rows-count.new.places) (sym c.in-Index.is)
    (next-of_index t c.args.places.now c.put_rows-count.result.0 c.put_rows-count.new.places c.in-Index.range c.put_rows-count.result.1 c.requires c.put_rows-count.ensures)

pub returns-in-Heap : goal.returns-in-Heap
returns-in-Heap c =
    let t = sight_of c.args.heap.now c.args.reader.now in
    subst (λ scan. PutsNext t scan c.args.places.now c.put_page-count.result.0 (Heap c.put_page-count.result.1) c.put_page-count.new.places) (sym c.in-Heap.is)
    (next-of_heap t c.args.places.now c.put_page-count.result.0 c.put_page-count.new.places c.in-Heap.from c.put_page-count.result.1 c.put_page-count.ensures)
