-- The places of the sessions, as they are looked through.
use Rattle.std.specs.Prelude.{◌≡◌, ◌≤◌, ℕ, List, length, Option, Some, None, slice_get}
use Rattle.std.specs.Option.{option_flatten}
use Rattle.xid_circle.specs.Numbers.{Count}
use Rattle.sessions.specs.declared.session.Session.{Session}
use Rattle.sessions.specs.Session.{owns_of, held_back}

abbrev pub open_at : List (Option Session) → ℕ → Option Session
open_at sessions s = option_flatten (slice_get sessions s)

-- nobody has a session in this place or a later one
abbrev pub AreIdleFrom : ℕ → List (Option Session) → Type 0
AreIdleFrom n sessions = (s : ℕ) → n ≤ s → open_at sessions s ≡ None

-- of places for sessions, of which so many were used: every open session has one of these
pub record ArePlaces (used : Count) (places : List (Option Session)) : Type 0 where
  -- no more were used than there are
  pub within : used ≤ length places
  -- nobody has one that was not used
  pub idle : AreIdleFrom used places

-- the first of the places, which have all the open sessions
pub record HoldsOpen (first sessions : List (Option Session)) : Type 0 where
  pub within : length first ≤ length sessions
  pub each : (s : ℕ) → open_at first s ≡ open_at sessions s
  pub owns : owns_of first ≡ owns_of sessions
  pub held : held_back first ≡ held_back sessions
