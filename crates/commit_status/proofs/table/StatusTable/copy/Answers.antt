use Rattle.std.proofs.Common.{List, sym, subst}
use Rattle.commit_status.specs.Window.{IdEntry}
use Rattle.commit_status.specs.Table.{IsStatusTable}
use Rattle.commit_status.proofs.table.StatusTable.copy.Goals as goal

pub invariant_of-result : goal.invariant_of-result
invariant_of-result c =
    let w = c.self.invariant.window in
    let entries = c.in_ok-entries.entries in
    let Kept : List IdEntry → Type 0 = λ items. IsStatusTable (record { first = c.self.inside.first.0; stop_age = c.self.inside.stop_age; entries = items; spare = entries.spare }) c.self.inside.next.0 in
    subst Kept (sym c.in_ok-entries.ensures) (record {
      window = record { normal = w.normal; fits = w.fits; limit = w.limit; short = w.short; parents = w.parents };
      normal = c.self.invariant.normal;
      next_is = c.self.invariant.next_is;
    })
