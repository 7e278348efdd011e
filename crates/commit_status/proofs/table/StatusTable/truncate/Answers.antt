use Rattle.std.proofs.Common.{sym, subst}
use Rattle.commit_status.specs.Window.{Window, IsUpToNext}
use Rattle.commit_status.proofs.Tables.{table-dropped}
use Rattle.commit_status.proofs.table.StatusTable.truncate.Goals as goal

pub invariant_of-self : goal.invariant_of-self
invariant_of-self c =
    let P : Window → Type 0 = λ w. IsUpToNext w c.args.x.0 in
    table-dropped _ _ _ _ _ _ _ _ _ c.self.invariant (subst P (sym c.self.view_is) c.requires) c.turns.ensures c.forget.ensures.items
