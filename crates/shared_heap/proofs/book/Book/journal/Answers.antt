use Rattle.std.proofs.Common.{subst}
use Rattle.shared_heap.specs.Books.{HasRun}
use Rattle.shared_heap.proofs.Running.{IsBook-run}
use Rattle.shared_heap.proofs.book.Book.journal.Goals as goal

pub returns-clause-run : goal.returns-clause-run
returns-clause-run c = subst HasRun c.self.view_is (IsBook-run (record { engine = c.self.inside.engine; journal = c.self.inside.journal.items }) c.self.invariant)
