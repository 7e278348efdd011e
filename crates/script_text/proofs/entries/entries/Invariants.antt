use Rattle.script_text.proofs.EntryLemmas.{IsTold}
use Rattle.script_text.proofs.entries.entries.Given as goal

-- the entries before the next one are told
abbrev pub invariant-loop : goal.invariant-loop
invariant-loop l = IsTold l.index.entries l.counter l.next l.initial.out.items l.out.items
