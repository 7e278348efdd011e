-- The ids that are remembered: those given from `first` on, in order of giving, up to but without the next one.
-- The rules are those of the manual's "Preventing Transaction ID Wraparound Failures" and of "Transactions and Identifiers".
use Rattle.std.specs.Prelude.{◌≡◌, ℕ, zero, suc, ◌+◌, ◌-◌, ◌^◌, ◌<◌, ◌≤◌, ◌&&◌, Bool, nat_lt, nat_le, if◌then◌else◌, List, length, Option, Some, None, IsSome, slice_get}
use Rattle.std.specs.Option.{option_and_then, option_map, unwrap_or}
use Rattle.xid_circle.specs.Circle.{IsNormal, given}
use Rattle.commit_status.specs.declared.status.Status.{Status}
use Rattle.commit_status.specs.declared.status.Status.TheVariants.{InProgress, Committed, Aborted}

-- what is known of an id: what became of it, and the id under which it was begun
pub record IdEntry : Type 0 where
  pub status : Status
  pub parent : Option ℕ

pub record Window : Type 0 where
  -- the oldest id that is remembered: all before it are frozen
  pub first : ℕ
  -- no id is given this far from the first, or further
  pub stop_age : ℕ
  -- what is known of each id, in order of giving
  pub entries : List IdEntry
  -- how many ids can be given without memory
  pub spare : ℕ

-- the id that is given next
abbrev pub next_id : Window → ℕ
next_id w = given w.first (length w.entries)

-- a number that a transaction may have
abbrev pub is_id : ℕ → Bool
is_id x = nat_le 3 x && nat_lt x (2 ^ 32)

-- how many turns after `first` the id x is given: after the last number comes 3
abbrev pub turns : ℕ → ℕ → ℕ
turns first x = if nat_le first x then x - first else x + (2 ^ 32 - 3) - first

-- the place of an id in the window, if it is there
abbrev pub place_in : ℕ → ℕ → ℕ → Option ℕ
place_in first count x = if is_id x && nat_lt (turns first x) count then Some (turns first x) else None

abbrev pub place : Window → ℕ → Option ℕ
place w x = place_in w.first (length w.entries) x

abbrev pub entry_of : Window → ℕ → Option IdEntry
entry_of w x = option_and_then (slice_get w.entries) (place w x)

-- an id outside the window counts as in progress, without a parent
abbrev pub status_in : Option IdEntry → Status
status_in (Some e) = e.status
status_in None = InProgress

abbrev pub parent_in : Option IdEntry → Option ℕ
parent_in (Some e) = e.parent
parent_in None = None

abbrev pub status_of : Window → ℕ → Status
status_of w x = status_in (entry_of w x)

abbrev pub parent_of : Window → ℕ → Option ℕ
parent_of w x = parent_in (entry_of w x)

-- From an id to its parent, to its parent's parent, and so on, for as many steps at most. An ancestor that is
-- before the window has no parent there.
abbrev pub ancestor_in : ℕ → Window → ℕ → ℕ
ancestor_in zero w x = x
ancestor_in (suc steps) w x = unwrap_or (option_map (ancestor_in steps w) (parent_of w x)) x

-- the first ancestor before the window if there is one, else the topmost
abbrev pub top_of : Window → ℕ → ℕ
top_of w x = ancestor_in (length w.entries) w x

abbrev pub IsCommitted : Window → ℕ → Type 0
IsCommitted w x = status_of w x ≡ Committed

abbrev pub IsAborted : Window → ℕ → Type 0
IsAborted w x = status_of w x ≡ Aborted

abbrev pub IsInProgress : Window → ℕ → Type 0
IsInProgress w x = status_of w x ≡ InProgress

-- in the window
abbrev pub IsGiven : Window → ℕ → Type 0
IsGiven w x = IsSome (place w x)

-- in the window and in progress
pub record IsActive (w : Window) (x : ℕ) : Type 0 where
  pub is_given : IsGiven w x
  pub unfinished : IsInProgress w x

-- in the window, or the next id
pub record IsUpToNext (w : Window) (x : ℕ) : Type 0 where
  pub normal : IsNormal x
  pub fits : x < 2 ^ 32
  pub reached : turns w.first x ≤ length w.entries

-- an id that was given before another, fewer turns ago than half the circle
pub record IsGivenBefore (p x : ℕ) : Type 0 where
  pub normal : IsNormal p
  pub fits : p < 2 ^ 32
  pub before : 0 < turns p x
  pub near : turns p x ≤ 2144483648

abbrev pub parent_at : List IdEntry → ℕ → Option ℕ
parent_at entries i = parent_in (slice_get entries i)

-- what is so of every table: the window is shorter than half the circle, and parents are given before their children
pub record IsWindow (w : Window) : Type 0 where
  pub normal : IsNormal w.first
  pub fits : w.first < 2 ^ 32
  pub limit : w.stop_age ≤ 2144483648
  pub short : length w.entries ≤ w.stop_age
  pub parents : (i p : ℕ) → parent_at w.entries i ≡ Some p → IsGivenBefore p (given w.first i)
