use Rattle.std.proofs.Common.{sym, subst}
use Rattle.shared_heap.specs.Work.{WorkView, AllDone}
use Rattle.shared_heap.proofs.Merging.{Merges-done}
use Rattle.shared_heap.proofs.work.Work.into_book.Goals as goal

pub returns-clause-merge : goal.returns-clause-merge
returns-clause-merge g c =
    let P : WorkView → Type 0 = λ w. AllDone w in
    Merges-done _ g.J.Request.lists c.self.invariant.carried (subst P (sym c.self.view_is) c.requires) c.self.invariant.of_lists
