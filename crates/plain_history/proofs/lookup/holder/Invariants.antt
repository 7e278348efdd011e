use Rattle.std.proofs.Common.{◌≡◌, ◌≢◌, ℕ, ◌<◌, Some}
use Rattle.std.specs.Prelude.{IsSome}
use Rattle.history.specs.World.{OpenSession, own_write}
use Rattle.plain_history.specs.Plain.{session_in}
use Rattle.plain_history.proofs.lookup.holder.Given as goal

-- no other session so far holds the key
abbrev pub invariant-loop-o : goal.invariant-loop-o
invariant-loop-o l = (o : ℕ) (m : OpenSession) → o < l.o → o ≢ l.s → session_in l.sessions o ≡ Some m → IsSome (own_write m l.key) → ⊥
