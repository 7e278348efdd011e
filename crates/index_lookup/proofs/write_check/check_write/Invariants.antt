use Rattle.std.specs.Prelude.{IfSome, IsTrue}
use Rattle.index_entries.specs.Sets.{IsLastOf}
use Rattle.index_lookup.specs.Pages.{page_slots_of}
use Rattle.visibility.specs.Reading.{IsSeenBy, IsOtherWriterFor, IsNewerCommitFor}
use Rattle.index_lookup.proofs.Searching.{CheckSearched}
use Rattle.index_lookup.proofs.write_check.check_write.Given as goal

abbrev pub invariant-loop : goal.invariant-loop
invariant-loop l = record {
  check : CheckSearched l.reader.statuses.now (IsSeenBy l.reader) (IsNewerCommitFor l.reader) (IsOtherWriterFor l.reader) (page_slots_of l.table.pages.now) l.table.index.now.entries l.value l.key
      l.counter l.search.next l.check;
  last : IsTrue l.search.is_last → IfSome l.search.next (IsLastOf l.table.index.now.entries);
}
