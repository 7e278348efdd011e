use Rattle.std.proofs.Common.{◌≡◌, ◌-◌, ◌++◌, ℕ, List, length}
use Rattle.plain_history.specs.Plain.{world_of}
use Rattle.transcript.proofs.ExchangeLemmas.{Progress}
use Rattle.transcript.proofs.exchanges.judge_all_exchanges.Given as goal

-- what is told of those before this place
abbrev pub invariant-loop-at : goal.invariant-loop-at
invariant-loop-at l = (told : List ℕ) × Progress l.begins (world_of l.fn.judge) (world_of l.judge) l.text l.from l.at l.allowed l.wrong l.left_open told × (l.out.items ≡ l.fn.out.items ++ told)

abbrev pub decreases-loop-at : goal.decreases-loop-at
decreases-loop-at l = length l.text - l.at
