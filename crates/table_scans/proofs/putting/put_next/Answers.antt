use Rattle.std.proofs.Common.{refl, sym, subst}
use Rattle.table_scans.specs.declared.progress.CursorScan.{CursorScan}
use Rattle.table_scans.specs.declared.progress.CursorScan.TheVariants.{Rows, Keys}
use Rattle.table_scans.specs.Scans.{sight_of}
use Rattle.table_scans.specs.Puts.{PutsOfCursor}
use Rattle.table_scans.proofs.putting.put_next.Goals as goal

pub returns-in-Rows : goal.returns-in-Rows
returns-in-Rows c =
    subst (λ (cursor : CursorScan). PutsOfCursor (sight_of c.args.heap.now c.args.reader.now) cursor c.args.places.now c.put_scan-count.result.0 (Rows c.put_scan-count.result.1) c.put_scan-count.new.places)
    (sym c.in-Rows.is) (c.put_scan-count.result.1, refl, c.put_scan-count.ensures)

pub returns-in-Keys : goal.returns-in-Keys
returns-in-Keys c =
    subst (λ (cursor : CursorScan). PutsOfCursor (sight_of c.args.heap.now c.args.reader.now) cursor c.args.places.now c.put_keys-count.result.0 (Keys c.put_keys-count.result.1) c.put_keys-count.new.places)
    (sym c.in-Keys.is) (c.put_keys-count.result.1, refl, c.put_keys-count.ensures)
