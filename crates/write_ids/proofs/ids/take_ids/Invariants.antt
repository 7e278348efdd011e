use Rattle.write_ids.proofs.IdLemmas.{Giving}
use Rattle.write_ids.proofs.ids.take_ids.Given as goal

abbrev pub invariant-loop : goal.invariant-loop
invariant-loop l = Giving l.fn.statuses l.fn.own l.statuses l.own l.counter
