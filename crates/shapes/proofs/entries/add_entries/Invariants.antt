use Rattle.std.proofs.Common.{◌≡◌}
use Rattle.shapes.specs.Shapes.{Adds, ArePieces, entry_shapes}
use Rattle.shapes.proofs.entries.add_entries.Given as goal

abbrev pub invariant-loop-number : goal.invariant-loop-number
invariant-loop-number l = Adds (ArePieces (λ i entries. entries ≡ entry_shapes l.engine.engine.core l.page i) l.number) l.initial.shapes.items l.shapes.items
