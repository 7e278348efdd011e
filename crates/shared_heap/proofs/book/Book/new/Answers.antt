use Rattle.shared_heap.proofs.Running.{IsBookOf-new}
use Rattle.shared_heap.proofs.book.Book.new.Goals as goal

pub invariant_of-result : goal.invariant_of-result
invariant_of-result c = record { settings = c.args.settings; made = IsBookOf-new c.args.settings c.in-Ok.engine _ c.in-Ok.ensures.new c.new-in-Ok.ensures.items }
