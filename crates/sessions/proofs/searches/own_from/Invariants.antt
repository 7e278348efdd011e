use Rattle.std.proofs.Common.{◌≡◌, ℕ, ◌<◌, Some}
use Rattle.std.specs.Prelude.{Contains}
use Rattle.xid_circle.specs.Circle.{Precedes}
use Rattle.sessions.specs.declared.session.Session.{Session}
use Rattle.sessions.specs.Places.{open_at}
use Rattle.sessions.proofs.searches.own_from.Given as goal

abbrev pub invariant-loop-s : goal.invariant-loop-s
invariant-loop-s l = (s : ℕ) (e : Session) (x : ℕ) → s < l.s → open_at l.sessions s ≡ Some e → Contains e.own.ids x → ¬ Precedes x l.cutoff.0
