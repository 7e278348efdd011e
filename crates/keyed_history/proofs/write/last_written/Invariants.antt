use Rattle.std.proofs.Common.{◌≡◌, take}
use Rattle.history.specs.History.{written}
use Rattle.std.specs.Prelude.{IfSome}
use Rattle.keyed_history.specs.Places.{IsRowOf}
use Rattle.keyed_history.proofs.write.last_written.Given as goal

abbrev pub invariant-loop-write : goal.invariant-loop-write
invariant-loop-write l = record { value : l.last ≡ written (take l.write-index l.writes) l.key; keyed : IfSome l.last (λ row. IsRowOf l.key row) }
