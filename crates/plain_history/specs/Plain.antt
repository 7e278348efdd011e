-- The world that the plain program's lists stand for.
use Rattle.std.specs.Prelude.{ℕ, Bool, false, List, [], ◌∷◌, Option, Some, None, ◌≡◌, slice_get, slice_index_or}
use Rattle.std.specs.Option.{option_map, option_flatten}
use Rattle.plain_cursor.specs.Hands.{cursor_of}
use Rattle.plain_history.specs.declared.plain.PlainSession.{PlainSession}
use Rattle.plain_history.specs.declared.plain.PlainIsolation.{PlainIsolation}
use Rattle.plain_history.specs.declared.plain.PlainIsolation.TheVariants.{BySnapshot, ByStatement}
use Rattle.waits.specs.View.{wait_in}
use Rattle.history.specs.History.{Transaction}
use Rattle.history.specs.World.{World, is_indexed, Isolation, by_snapshot, by_statement, OpenSession}

pub record Plain : Type 0 where
  pub history : List Transaction
  pub sessions : List (Option PlainSession)
  pub waits : List (Option ℕ)
  pub indexed : List Bool
  pub too_new : List (List Bool)
  pub has_vacuum : Bool

-- there are so many places: one for each number of a u8, be it a session's or not
pub record HasAllPlaces (sessions waits marks : ℕ) : Type 0 where
  -- to sit
  pub to_sit : sessions ≡ 256
  -- to note for whom one waits
  pub to_wait : waits ≡ 256
  -- to note which indexes are too new for one
  pub to_mark : marks ≡ 256

abbrev pub isolation_of : PlainIsolation → Isolation
isolation_of (BySnapshot start) = by_snapshot start
isolation_of ByStatement = by_statement

abbrev pub open_of : PlainSession → OpenSession
open_of m = record {
  isolation = isolation_of m.isolation;
  levels = m.newest ∷ m.older.items;
  failed = m.failed;
  cursor = option_map cursor_of m.cursor;
  has_written = m.has_written;
}

abbrev pub session_in : List (Option PlainSession) → ℕ → Option OpenSession
session_in sessions s = option_map open_of (option_flatten (slice_get sessions s))

-- the session is open, and has written
abbrev pub has_session_written : Option OpenSession → Bool
has_session_written None = false
has_session_written (Some m) = m.has_written

abbrev pub too_new_in : List (List Bool) → (session index : ℕ) → Bool
too_new_in marks s index = slice_index_or (slice_index_or marks s []) index false

abbrev pub world_of : Plain → World
world_of p = record {
  history = p.history;
  session = session_in p.sessions;
  waits_for = wait_in p.waits;
  has_index = is_indexed p.indexed;
  too_new = too_new_in p.too_new;
  has_vacuum = p.has_vacuum;
}
