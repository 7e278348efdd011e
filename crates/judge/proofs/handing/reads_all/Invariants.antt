use Rattle.std.proofs.Common.{◌≡◌, ℕ, ◌<◌, Some, slice_get}
use Rattle.tuple_header.specs.declared.version.Row.{Row}
use Rattle.history.specs.World.{OpenSession, IsReady, view}
use Rattle.plain_history.specs.Plain.{world_of}
use Rattle.judge.proofs.handing.reads_all.Given as goal

abbrev pub invariant-loop-i : goal.invariant-loop-i
invariant-loop-i l = (m : OpenSession) → IsReady (world_of l.plain) l.s m → (k : ℕ) (r : Row) → k < l.i → slice_get l.rows k ≡ Some r → view l.plain.history m r.key ≡ Some r
