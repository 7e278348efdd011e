-- What the type of an engine keeps, whatever was done with it.
use Rattle.std.specs.Prelude.{◌≡◌, ℕ, List, length, Option, Some, Contains}
use Rattle.commit_status.specs.Window.{Window, IsActive}
use Rattle.snapshot.specs.Own.{AreDistinct}
use Rattle.sessions.specs.declared.session.Session.{Session}
use Rattle.calls.specs.declared.step.TheConstants.{MOST_SESSIONS}
use Rattle.sessions.specs.Places.{open_at}

-- Each own id of an open session is in progress, there once, and no other session's; and each id in progress is a session's.
pub record OwnIdsKeep (sessions : List (Option Session)) (w : Window) : Type 0 where
  pub active : (s : ℕ) (e : Session) (x : ℕ) → open_at sessions s ≡ Some e → Contains e.own.ids x → IsActive w x
  pub distinct : (s : ℕ) (e : Session) → open_at sessions s ≡ Some e → AreDistinct e.own.ids
  pub apart : (s o : ℕ) (e f : Session) (x : ℕ) → open_at sessions s ≡ Some e → open_at sessions o ≡ Some f → Contains e.own.ids x → Contains f.own.ids x → s ≡ o
  pub owned : (x : ℕ) → IsActive w x → (s : ℕ) × (e : Session) × (open_at sessions s ≡ Some e) × Contains e.own.ids x

pub record EngineKeeps (sessions : List (Option Session)) (w : Window) : Type 0 where
  pub count : length sessions ≡ MOST_SESSIONS
  pub own : OwnIdsKeep sessions w
