-- Whose a step is.
use Rattle.std.specs.Prelude.{ℕ, Option, Some, None}
use Rattle.calls.specs.declared.step.Step.{Step}
use Rattle.calls.specs.declared.step.Step.TheVariants as step

-- whose step it is; cleaning is nobody's, and so is the making of an index
abbrev pub session_of : Step → Option ℕ
session_of (step.Begin s) = Some s
session_of (step.BeginReadCommitted s) = Some s
session_of (step.Get s k) = Some s
session_of (step.Insert s row) = Some s
session_of (step.Update s row) = Some s
session_of (step.Delete s k) = Some s
session_of (step.Savepoint s) = Some s
session_of (step.RollbackTo s) = Some s
session_of (step.Release s) = Some s
session_of (step.Commit s) = Some s
session_of (step.Abort s) = Some s
session_of (step.OpenIndex s index low high) = Some s
session_of (step.OpenHeap s) = Some s
session_of (step.OpenKeys s low high) = Some s
session_of (step.Next s n) = Some s
session_of (step.Close s) = Some s
session_of (step.TakePage s p) = Some s
session_of step = None
