use Rattle.shapes.proofs.EntryLemmas.{AreShown}
use Rattle.shapes.proofs.entries.add_entries_in.Given as goal

abbrev pub invariant-loop : goal.invariant-loop
invariant-loop l = AreShown l.page l.number l.index.entries l.counter l.next l.initial.shapes.items l.shapes.items
