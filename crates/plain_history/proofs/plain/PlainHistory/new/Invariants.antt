use Rattle.std.proofs.Common.{◌≡◌, replicate, None, false}
use Rattle.plain_history.proofs.plain.PlainHistory.new.Given as goal

abbrev pub invariant-loop : goal.invariant-loop
invariant-loop l = l.sessions.items ≡ replicate l.counter None

abbrev pub invariant-loop-2 : goal.invariant-loop-2
invariant-loop-2 l = l.waits.items ≡ replicate l.counter None

abbrev pub invariant-loop-3 : goal.invariant-loop-3
invariant-loop-3 l = l.too_new.items ≡ replicate l.counter (replicate 5 false)
