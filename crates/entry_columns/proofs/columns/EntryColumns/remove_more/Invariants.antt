use Rattle.std.proofs.Common.{vec_capacity}
use Rattle.entry_columns.proofs.RemovalLemmas.{IsRemoving}
use Rattle.entry_columns.proofs.columns.EntryColumns.remove_more.Given as goal

abbrev pub invariant-loop-place : goal.invariant-loop-place
invariant-loop-place g l =
    IsRemoving g.L.Label.value_of g.L.Label.key_of l.dead l.fn.self.entries l.fn.self.room l.from l.kept l.place l.self-inside.labels.items l.self-inside.places.items (vec_capacity l.self-inside.labels)
    (vec_capacity l.self-inside.places)
