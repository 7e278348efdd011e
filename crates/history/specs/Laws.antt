-- Laws of every run.
use Rattle.std.specs.Prelude.{◌≡◌, ℕ, ◌<◌, ◌≤◌, List, length, ◌++◌, Some, None, IsSome, true, false, slice_get, Contains, ◌⊎◌}
use Rattle.history.specs.History.{Write, Transaction, IsLate}
use Rattle.history.specs.World.{World, by_snapshot, by_statement, OpenSession, joined, own_write, start_now, view, Holds}
use Rattle.calls.specs.declared.step.TheConstants.{MOST_SESSIONS}

-- the transaction at this place of the history has the write
abbrev pub Wrote : List Transaction → ℕ → Write → Type 0
Wrote history n write = (t : Transaction) × (slice_get history n ≡ Some t) × Contains t write

-- first committer wins: of two transactions that wrote one key, the second to commit wrote it by a snapshot that was taken after
-- the first had committed
abbrev pub FirstCommitterWins : List Transaction → Type 0
FirstCommitterWins history = (m n : ℕ) (a b : Write) → Wrote history m a → Wrote history n b
    → a.key ≡ b.key → n < m → n < a.start

-- what an open session has written, nobody has who committed since the snapshot was taken
abbrev pub HeldInTime : World → Type 0
HeldInTime w = (s : ℕ) (m : OpenSession) (write : Write) → w.session s ≡ Some m
    → Contains (joined m.levels) write → ¬ IsLate w.history write.start write.key

-- no two open sessions hold one key
abbrev pub HeldOnce : World → Type 0
HeldOnce w = (s o key : ℕ) → Holds w s key → Holds w o key → s ≡ o

-- who holds a key has written
abbrev pub HoldersHaveWritten : World → Type 0
HoldersHaveWritten w = (s key : ℕ) (m : OpenSession) → w.session s ≡ Some m → IsSome (own_write m key) → m.has_written ≡ true

-- what has committed stays as it is
abbrev pub Grows : World → World → Type 0
Grows before after = (more : List Transaction) × (after.history ≡ before.history ++ more)

-- the session reads by the snapshot of its beginning
abbrev pub IsBySnapshot : OpenSession → Type 0
IsBySnapshot m = (start : ℕ) × (m.isolation ≡ by_snapshot start)

-- the session is as it was. So is each row that it reads, if it reads by snapshot or if nothing has committed
abbrev pub KeepsView : ℕ → World → World → Type 0
KeepsView s before after = (after.session s ≡ before.session s)
    × ((m : OpenSession) (key : ℕ) → before.session s ≡ Some m → IsBySnapshot m ⊎ (after.history ≡ before.history) → view after.history m key ≡ view before.history m key)

-- for a session that reads by statement no key is ever late
abbrev pub NeverLate : World → Type 0
NeverLate w = (s : ℕ) (m : OpenSession) (key : ℕ) → w.session s ≡ Some m → m.isolation ≡ by_statement → ¬ IsLate w.history (start_now w.history m) key

-- no index is ever too new for a session that reads by statement
abbrev pub NeverTooNew : World → Type 0
NeverTooNew w = (s index : ℕ) (m : OpenSession) → w.session s ≡ Some m → m.isolation ≡ by_statement → w.too_new s index ≡ false

-- an index that is there stays
abbrev pub KeepsIndexes : World → World → Type 0
KeepsIndexes before after = (index : ℕ) → before.has_index index ≡ true → after.has_index index ≡ true

-- no session is open under a number that is no session's
abbrev pub HasFew : World → Type 0
HasFew w = (s : ℕ) → MOST_SESSIONS ≤ s → w.session s ≡ None

-- none has more than 32 savepoints, and so 33 levels
abbrev pub HasFewLevels : World → Type 0
HasFewLevels w = (s : ℕ) (m : OpenSession) → w.session s ≡ Some m → length m.levels ≤ 33
