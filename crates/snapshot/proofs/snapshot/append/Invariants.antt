use Rattle.std.proofs.Common.{◌≡◌, ◌++◌, take}
use Rattle.commit_status.specs.Changes.{numbers}
use Rattle.snapshot.proofs.snapshot.append.Given as goal

abbrev pub invariant-loop-id : goal.invariant-loop-id
invariant-loop-id l = record {
  items : l.listed.items ≡ l.initial.listed.items ++ numbers (take l.id-index l.ids);
  capacity : l.listed.capacity ≡ l.initial.listed.capacity;
}
