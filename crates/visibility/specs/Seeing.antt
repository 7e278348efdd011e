-- Which versions a reader sees, by what became of each id of a window, and by which ids it sees. A reader sees some ids,
-- and has ids of its own. (The manual's "Transaction Isolation": a query sees what was committed before it began, and its
-- own transaction's changes.)
use Rattle.std.specs.Prelude.{◌≡◌, ℕ, ◌==◌, List, Option, Some, None, Contains, if◌then◌else◌}
use Rattle.xid_circle.specs.Numbers.{Id}
use Rattle.tuple_header.specs.declared.version.Header.{Header}
use Rattle.tuple_header.specs.Marks.{is_frozen}
use Rattle.commit_status.specs.declared.status.Status.{Status}
use Rattle.commit_status.specs.declared.status.Status.TheVariants.{InProgress, Committed, Aborted}

abbrev pub HasCommitted : (ℕ → Option Status) → ℕ → Type 0
HasCommitted status x = status x ≡ Some Committed

abbrev pub HasAborted : (ℕ → Option Status) → ℕ → Type 0
HasAborted status x = status x ≡ Some Aborted

-- an id of the window that is in progress
abbrev pub IsRunning : (ℕ → Option Status) → ℕ → Type 0
IsRunning status x = status x ≡ Some InProgress

-- the id that made the version, unless it is frozen
abbrev pub inserter : Header → Option ℕ
inserter h = if is_frozen h then None else Some h.xmin.0

-- the id that deleted it, if one did
abbrev pub deleter : Header → Option ℕ
deleter h = if h.xmax.0 == 0 then None else Some h.xmax.0

-- what a reader reads: what its own ids did, and what ids did that it sees and that committed
pub data Reads (status : ℕ → Option Status) (sees : ℕ → Type 0) (own : List ℕ) (x : ℕ) : Type 0 where
  by_itself : Contains own x → Reads status sees own x
  by_others : sees x → HasCommitted status x → Reads status sees own x

-- Whoever counts the ids of R sees the version: it is frozen or an id of R made it, and no id of R deleted it.
pub record VisibleBy (R : ℕ → Type 0) (h : Header) : Type 0 where
  pub made : (x : ℕ) → inserter h ≡ Some x → R x
  pub kept : (x : ℕ) → deleter h ≡ Some x → ¬ R x

-- the id made or deleted the version
pub data Touches (x : ℕ) (h : Header) : Type 0 where
  made_by : inserter h ≡ Some x → Touches x h
  deleted_by : deleter h ≡ Some x → Touches x h

-- a committed id that the reader does not see made or deleted the version
abbrev pub IsNewerCommit : (status : Id → Option Status) → (sees : Id → Type 0) → (x : Id) → Header → Type 0
IsNewerCommit status sees x h = Touches x h × HasCommitted status x × (¬ sees x)

-- an id in progress that is not the reader's own made or deleted it
pub record IsOtherWriter (status : ℕ → Option Status) (own : List ℕ) (x : ℕ) (h : Header) : Type 0 where
  pub touch : Touches x h
  pub active : IsRunning status x
  pub foreign : ¬ Contains own x
