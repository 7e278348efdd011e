use Rattle.std.proofs.Common.{◌≡◌, ◌≤◌, ◌+◌, take, slice_get}
use Rattle.root_index.specs.View.{room_in}
use Rattle.root_index.specs.Widening.{IsForAll}
use Rattle.root_index.proofs.narrow.copy_entries.Given as goal

abbrev pub invariant-loop : goal.invariant-loop
invariant-loop l = record {
  copied : l.to.entries ≡ take l.counter l.fn.from.entries;
  next : l.next ≡ slice_get l.fn.from.entries l.counter;
  for_all : IsForAll l.to;
  room : room_in l.fn.to ≤ room_in l.to + l.counter;
}
