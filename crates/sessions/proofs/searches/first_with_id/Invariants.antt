use Rattle.std.proofs.Common.{◌≡◌, ℕ, ◌<◌, [], Some}
use Rattle.sessions.specs.declared.session.Session.{Session}
use Rattle.sessions.specs.Places.{open_at}
use Rattle.sessions.proofs.searches.first_with_id.Given as goal

abbrev pub invariant-loop-s : goal.invariant-loop-s
invariant-loop-s l = (s : ℕ) (e : Session) → s < l.s → open_at l.sessions s ≡ Some e → e.own.ids ≡ []
