use Rattle.std.proofs.Common.{suc}
use Rattle.index_lookup.specs.Pages.{page_slots_of}
use Rattle.index_making.specs.Listing.{ListsUpTo}
use Rattle.index_making.proofs.making.list_page.Given as goal

abbrev pub invariant-loop-slot : goal.invariant-loop-slot
invariant-loop-slot l = ListsUpTo l.reader.statuses.now (page_slots_of l.pages) (suc l.column) l.number l.slot l.filling
