use Rattle.std.proofs.Common.{◌≡◌}
use Rattle.xid_circle.specs.Circle.{given}
use Rattle.shapes.proofs.ids.id_after.Given as goal

abbrev pub invariant-loop : goal.invariant-loop
invariant-loop l = l.x.0 ≡ given l.fn.first.0 l.counter
