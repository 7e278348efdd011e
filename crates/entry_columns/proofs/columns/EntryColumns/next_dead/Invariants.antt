use Rattle.std.proofs.Common.{◌≡◌, ◌≤◌, ◌-◌, ◌++◌, length, take, drop}
use Rattle.std.specs.List.{filter}
use Rattle.index_entries.specs.Lists.{stays}
use Rattle.entry_columns.proofs.columns.EntryColumns.next_dead.Given as goal

-- the entries so far stay
abbrev pub invariant-loop-place : goal.invariant-loop-place
invariant-loop-place g l = record {
  from : l.from ≤ l.place;
  end : l.place ≤ length l.self-inside.places.items;
  kept : take l.place l.self.entries ++ filter (stays l.dead) (drop l.place l.self.entries) ≡ take l.from l.self.entries ++ filter (stays l.dead) (drop l.from l.self.entries);
}

abbrev pub decreases-loop-place : goal.decreases-loop-place
decreases-loop-place g l = length l.self-inside.places.items - l.place
