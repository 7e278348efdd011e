use Rattle.std.proofs.Common.{◌≡◌, ◌-◌, ◌++◌, length, take, drop}
use Rattle.status_cache.specs.Held.{held_from}
use Rattle.status_cache.proofs.cache.drop_before.Given as goal

-- what was gone through, from the last on, stands before what is still to come
abbrev pub invariant-loop : goal.invariant-loop
invariant-loop l = record {
  gone : l.kept.entries ≡ held_from l.x.0 (drop (length l.fn.kept.entries - l.counter) l.fn.kept.entries) ++ take (length l.fn.kept.entries - l.counter) l.fn.kept.entries;
  capacity : l.kept.cap ≡ l.fn.kept.cap;
}
