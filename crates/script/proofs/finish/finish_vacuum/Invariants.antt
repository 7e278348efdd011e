use Rattle.script.proofs.FinishLemmas.{HasWorked}
use Rattle.script.proofs.finish.finish_vacuum.Given as goal

abbrev pub invariant-loop : goal.invariant-loop
invariant-loop l = HasWorked l.fn.engine l.engine l.reply l.counter
