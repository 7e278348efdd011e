use Rattle.std.proofs.Common.{ℕ, List}
use Rattle.visibility.specs.Reading.{IsSeenBy}
use Rattle.hot_chain.specs.Chain.{has_aborted, IsChain}
use Rattle.hot_chain.proofs.SeenWalks.{Unseen}
use Rattle.hot_chain.proofs.fetching.first_seen.Given as goal

abbrev pub invariant-loop : goal.invariant-loop
invariant-loop l = (chain : List ℕ) → IsChain (has_aborted l.reader.statuses.now) l.page.slots l.number chain → Unseen (IsSeenBy l.reader) l.page.slots chain l.counter l.at
