-- A session's own ids: those of its open transaction that are not rolled back.
use Rattle.std.specs.Prelude.{◌≡◌, ℕ, zero, suc, ◌≤◌, ◌==◌, if◌then◌else◌, List, [], ◌∷◌, ◌++◌, length, map, reverse, take, Option, Some, Contains, slice_get}
use Rattle.xid_circle.specs.Circle.{IsNormal}
use Rattle.xid_circle.specs.declared.Xid.{Xid}
use Rattle.snapshot.specs.declared.own.TheConstants.{MOST_SAVEPOINTS}

pub record Own : Type 0 where
  -- in order of giving, the topmost first
  pub ids : List ℕ
  -- for each savepoint, the newest first, the ids that it had then
  pub saved : List (List ℕ)
  -- how many ids can be added without memory
  pub spare : ℕ
  -- how many savepoints can be set without memory
  pub spare_marks : ℕ

-- the ids up to the newest savepoint
abbrev pub newest : List (List ℕ) → List ℕ
newest [] = []
newest (ids ∷ saved) = ids

abbrev pub older : List (List ℕ) → List (List ℕ)
older [] = []
older (ids ∷ saved) = saved

-- the first so many ids, for each mark
abbrev pub prefixes : List ℕ → List ℕ → List (List ℕ)
prefixes ids marks = map (λ mark. take mark ids) marks

-- no mark is over the one that is newer, nor the newest over the number of ids
abbrev pub AreMarks : ℕ → List ℕ → Type 0
AreMarks count [] = Unit {0}
AreMarks count (mark ∷ marks) = (mark ≤ count) × AreMarks mark marks

-- Levels. A session has one level, and one more for each savepoint. The ids of a level are those that it had not at the
-- savepoint which begins it. (The manual's "Subtransactions".)

-- What was there at a savepoint is a prefix of what was there at the next, and of what is there now.
abbrev pub ArePrefixes : List ℕ → List (List ℕ) → Type 0
ArePrefixes ids [] = Unit {0}
ArePrefixes ids (before ∷ saved) = (since : List ℕ) × (ids ≡ before ++ since) × ArePrefixes before saved

-- no id is there twice
abbrev pub AreDistinct : List ℕ → Type 0
AreDistinct [] = Unit {0}
AreDistinct (x ∷ ids) = (¬ Contains ids x) × AreDistinct ids

-- how many levels, from the newest down, have no id of their own
abbrev pub unassigned_levels : List ℕ → List (List ℕ) → ℕ
unassigned_levels ids [] = if length ids == 0 then 1 else 0
unassigned_levels ids (before ∷ saved) = if length ids == length before then suc (unassigned_levels before saved) else 0

-- The id of the newest level that has one: the first that was given since the savepoint which begins it. A level that was
-- released has given its ids to the one below, which goes on under its own. (GetCurrentTransactionId in
-- src/backend/access/transam/xact.c.)
abbrev pub current_xid : List ℕ → List (List ℕ) → Option ℕ
current_xid ids [] = slice_get ids 0
current_xid ids (before ∷ saved) = if length ids == length before then current_xid before saved else slice_get ids (length before)

-- what was there at each savepoint: at the n newest the id is there too
abbrev pub saved_with : ℕ → ℕ → List (List ℕ) → List (List ℕ)
saved_with zero x saved = saved
saved_with (suc n) x [] = []
saved_with (suc n) x (before ∷ saved) = (before ++ x ∷ []) ∷ saved_with n x saved

-- The ids become those of as many levels, the newest, and the first of them is the lowest level's. (A level's first write
-- gives an id to every level below that has none, parents before children: AssignTransactionId in
-- src/backend/access/transam/xact.c.)
abbrev pub saved_with_each : List ℕ → List (List ℕ) → List (List ℕ)
saved_with_each [] saved = saved
saved_with_each (x ∷ xs) saved = saved_with_each xs (saved_with (length xs) x saved)

abbrev pub AreNormal : List Xid → Type 0
AreNormal ids = (i : ℕ) (x : Xid) → slice_get ids i ≡ Some x → IsNormal x.0

-- what own ids keep that have these marks of savepoints, the oldest first: how many ids there were at each
pub record AreOwnIds (ids : List Xid) (marks : List ℕ) : Type 0 where
  -- no id is one of the three special ones
  pub normal : AreNormal ids
  -- no mark is over a later one, nor over the number of ids
  pub marked : AreMarks (length ids) (reverse marks)
  -- there are no more savepoints than there may be
  pub few : length marks ≤ MOST_SAVEPOINTS
