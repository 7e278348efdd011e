use Rattle.std.proofs.Common.{◌≡◌, ◌-◌, [], length}
use Rattle.plain_history.specs.Plain.{world_of}
use Rattle.transcript.proofs.ExchangeLemmas.{Progress}
use Rattle.transcript.proofs.exchanges.judge_exchanges.Given as goal

-- those before this place are allowed, and nothing is told yet
abbrev pub invariant-loop-at : goal.invariant-loop-at
invariant-loop-at l = Progress l.begins (world_of l.fn.judge) (world_of l.judge) l.text l.from l.at l.allowed 0 l.left_open [] × (l.out.items ≡ l.fn.out.items)

abbrev pub decreases-loop-at : goal.decreases-loop-at
decreases-loop-at l = length l.text - l.at
