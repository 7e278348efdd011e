use Rattle.std.proofs.Common.{◌≡◌, take}
use Rattle.snapshot.specs.Snap.{taken}
use Rattle.sessions.specs.Session.{owns_of}
use Rattle.sessions.proofs.snapshots.take_snapshot.Given as goal

abbrev pub invariant-loop-session : goal.invariant-loop-session
invariant-loop-session l = l.snapshot ≡ taken l.fn.next.0 (owns_of (take l.session-index l.sessions))
