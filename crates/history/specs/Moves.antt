-- To believe, 3 of 5 (docs/reading.md).
-- What each kind of step makes of the world. The kinds are those of the manual's section on transactions: BEGIN, the
-- writes, SAVEPOINT, ROLLBACK TO, RELEASE, COMMIT, ROLLBACK, and the calls of a cursor.
use Rattle.std.specs.Prelude.{ℕ, suc, ◌==◌, not, if◌then◌else◌, List, [], ◌∷◌, ◌++◌, Option, Some, None, Bool, true, false}
use Rattle.std.specs.Option.{option_map}
use Rattle.tuple_header.specs.declared.version.Row.{Row}
use Rattle.history.specs.History.{Write, Transaction}
use Rattle.history.specs.World.{World, Isolation, by_snapshot, by_statement, OpenSession, Cursor, Order, joined, start_now, view}
use Rattle.history.specs.Cursors.{kept_where, without}

-- the session has done a step, which ends its own wait
abbrev pub stepped : World → ℕ → World
stepped w s = record w { waits_for = λ t. if t == s then None else w.waits_for t }

-- by its step the session becomes this, or idle
abbrev pub put : World → ℕ → Option OpenSession → World
put w s m = record (stepped w s) { session = λ t. if t == s then m else w.session t }

-- by its step the open session changes
abbrev pub change : World → ℕ → (OpenSession → OpenSession) → World
change w s f = put w s (option_map f (w.session s))

-- nobody waits for the session any more: it gave back the keys of a level, or of all. Nor for a key that it
-- holds still, at a lower level: whoever does waits again once he asks again
abbrev pub awaited_no_more : World → ℕ → World
awaited_no_more w s = record w { waits_for = λ t. kept_where (λ o. not (o == s)) (w.waits_for t) }

-- a session that begins
abbrev pub new_session : Isolation → OpenSession
new_session isolation = record { isolation = isolation; levels = [] ∷ []; failed = false; cursor = None; has_written = false }

-- no index is too new for the session
abbrev pub free_to_scan : World → ℕ → World
free_to_scan w s = record w { too_new = λ t index. if t == s then false else w.too_new t index }

-- a session begins
abbrev pub begun : Isolation → World → ℕ → World
begun isolation w s = free_to_scan (put w s (Some (new_session isolation))) s

-- Repeatable Read, and not Read Committed
abbrev pub is_repeatable_read : Isolation → Bool
is_repeatable_read (by_snapshot start) = true
is_repeatable_read by_statement = false

-- the session is open, and reads by snapshot
abbrev pub is_open_by_snapshot : Option OpenSession → Bool
is_open_by_snapshot None = false
is_open_by_snapshot (Some m) = is_repeatable_read m.isolation

-- an index is made: it is there, and too new for each session that is open by snapshot
abbrev pub with_made_index : World → ℕ → World
with_made_index w index = record w {
  has_index = λ i. if i == index then true else w.has_index i;
  too_new = λ s i. if i == index then is_open_by_snapshot (w.session s) else w.too_new s i;
}

-- that of the column is, unless it is there
abbrev pub with_index_on : World → (column : ℕ) → World
with_index_on w c = if w.has_index (suc c) then w else with_made_index w (suc c)

-- a vacuum runs from now on, or none does
abbrev pub with_vacuum : Bool → World → World
with_vacuum runs w = record w { has_vacuum = runs }

-- a write joins the newest level
abbrev pub add_write : Write → List (List Write) → List (List Write)
add_write write [] = (write ∷ []) ∷ []
add_write write (level ∷ older) = (level ++ write ∷ []) ∷ older

-- the key has this row, or none where it is deleted; the write keeps the start of its statement, and the session has written from now on
abbrev pub with_write : List Transaction → ℕ → Option Row → OpenSession → OpenSession
with_write history key row m = record m { levels = add_write (record { start = start_now history m; key = key; row = row }) m.levels; has_written = true }

-- the session can only be rolled back
abbrev pub as_failed : OpenSession → OpenSession
as_failed m = record m { failed = true }

-- the session waits for o
abbrev pub blocked_by : World → ℕ → ℕ → World
blocked_by w s o = record w { waits_for = λ t. if t == s then Some o else w.waits_for t }

-- a savepoint begins a level
abbrev pub with_savepoint : OpenSession → OpenSession
with_savepoint m = record m { levels = [] ∷ m.levels }

-- the newest savepoint's level is emptied, and the savepoint stays
abbrev pub empty_newest : List (List Write) → List (List Write)
empty_newest [] = []
empty_newest (level ∷ older) = [] ∷ older

abbrev pub to_savepoint : OpenSession → OpenSession
to_savepoint m = record m { levels = empty_newest m.levels; failed = false }

abbrev pub rolled_back_to : World → ℕ → World
rolled_back_to w s = awaited_no_more (change w s to_savepoint) s

-- the newest savepoint's level joins the one below
abbrev pub join_newest : List (List Write) → List (List Write)
join_newest (level ∷ below ∷ older) = (below ++ level) ∷ older
join_newest levels = levels

abbrev pub without_savepoint : OpenSession → OpenSession
without_savepoint m = record m { levels = join_newest m.levels }

-- the session is idle, and what it had written is gone
abbrev pub aborted : World → ℕ → World
aborted w s = awaited_no_more (put w s None) s

abbrev pub appended : List Transaction → Option OpenSession → List Transaction
appended history None = history
appended history (Some m) = history ++ joined m.levels ∷ []

-- all that the session wrote joins the history as one transaction
abbrev pub committed_by : World → ℕ → World
committed_by w s = record (aborted w s) { history = appended w.history (w.session s) }

-- a cursor over the rows that the session reads as it is opened, or over those within bounds
abbrev pub opened : List Transaction → Order → ((ℕ → Option Row) → ℕ → Option Row) → OpenSession → OpenSession
opened history order within m = record m { cursor = Some (record { order = order; rest = within (view history m) }) }

-- the cursor has handed out the rows of these keys
abbrev pub with_taken : List ℕ → OpenSession → OpenSession
with_taken keys m = record m { cursor = option_map (λ (c : Cursor). record c { rest = without keys c.rest }) m.cursor }

abbrev pub without_cursor : OpenSession → OpenSession
without_cursor m = record m { cursor = None }
