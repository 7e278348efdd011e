use Rattle.status_cache.specs.Held.{CacheAgrees}
use Rattle.test_storage.proofs.held_statuses.ask_up_to.Given as goal

-- the cache still agrees
abbrev pub invariant-loop-x : goal.invariant-loop-x
invariant-loop-x l = CacheAgrees l.cache l.statuses
