-- An open session: by which snapshots it reads, and what it holds back.
use Rattle.std.specs.Prelude.{ℕ, ◌+◌, ◌*◌, Bool, true, false, List, [], ◌∷◌, ◌++◌, take, map, filter_map, flat_map, Option, Some, None, unwrap_or, slice_index_or}
use Rattle.snapshot.specs.Snap.{Snap, empty_at}
use Rattle.commit_status.specs.Window.{Window, next_id}
use Rattle.sessions.specs.declared.session.Session.{Session}
use Rattle.sessions.specs.declared.session.SessionIsolation.{SessionIsolation}
use Rattle.sessions.specs.declared.session.SessionIsolation.TheVariants.{BySnapshot, ByStatement}

-- Snapshots.

-- it reads each statement by a snapshot of its own
abbrev pub IsByStatement : SessionIsolation → Type 0
IsByStatement (BySnapshot snap) = ⊥
IsByStatement (ByStatement kept) = Unit {0}

-- the snapshot that a session keeps from step to step, if it keeps one: that of its beginning, or that of its cursor's opening
abbrev pub kept_by : SessionIsolation → Option Snap
kept_by (BySnapshot snap) = Some snap
kept_by (ByStatement kept) = kept

-- the snapshot by which a statement reads: that of the session's beginning, or the one that lists nobody, at the next id. This counts
-- each id that has committed (`ListingNobodyCountsCommitted`)
abbrev pub statement_snapshot : Window → SessionIsolation → Snap
statement_snapshot w (BySnapshot snap) = snap
statement_snapshot w (ByStatement kept) = empty_at (next_id w)

-- and that by which the session's cursor does: the one that it keeps
abbrev pub cursor_snapshot : Window → SessionIsolation → Snap
cursor_snapshot w isolation = unwrap_or (kept_by isolation) (empty_at (next_id w))

-- by statement the session keeps this from now on
abbrev pub keeping : Option Snap → SessionIsolation → SessionIsolation
keeping kept (BySnapshot snap) = BySnapshot snap
keeping kept (ByStatement old) = ByStatement kept

-- it reads by that of its beginning
abbrev pub reads_by_snapshot : SessionIsolation → Bool
reads_by_snapshot (BySnapshot snap) = true
reads_by_snapshot (ByStatement kept) = false

-- the index of this number was made in use while the session was open by snapshot, so it may not scan it; the index by key never was
abbrev pub is_too_new : Session → ℕ → Bool
is_too_new e number = slice_index_or (false ∷ e.too_new) number false

-- What the open sessions hold.

-- the sessions that are open, in the order of their numbers
abbrev pub open_ones : List (Option Session) → List Session
open_ones sessions = filter_map (λ o. o) sessions

-- the own ids of the open sessions
abbrev pub owns_of : List (Option Session) → List (List ℕ)
owns_of sessions = map (λ (e : Session). e.own.ids) (open_ones sessions)

-- the xmin of a snapshot that is kept
abbrev pub kept_xmin : Option Snap → List ℕ
kept_xmin None = []
kept_xmin (Some snap) = snap.xmin ∷ []

-- what an open session holds the horizon back to: the xmin of the snapshot that it keeps, if it keeps one, and its first id
abbrev pub holds_back : Session → List ℕ
holds_back e = kept_xmin (kept_by e.isolation) ++ take 1 e.own.ids

abbrev pub held_back : List (Option Session) → List ℕ
held_back sessions = flat_map holds_back (open_ones sessions)

-- which sessions are open: a bit for each, the lowest for session 0
abbrev pub open_bits : List (Option Session) → ℕ
open_bits [] = 0
open_bits (None ∷ sessions) = 2 * open_bits sessions
open_bits (Some e ∷ sessions) = 2 * open_bits sessions + 1
