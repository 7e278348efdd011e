-- What readers find among an engine's versions, and what ids did there.
use Rattle.std.specs.Prelude.{◌≡◌, ℕ, List, Option, Some, Contains}
use Rattle.xid_circle.specs.declared.Tid.{Tid}
use Rattle.tuple_header.specs.Version.{Version}
use Rattle.commit_status.specs.declared.status.Status.{Status}
use Rattle.visibility.specs.Seeing.{HasCommitted, IsRunning, Reads, VisibleBy, Touches, IsNewerCommit}

-- the reader sees the version
abbrev pub ReaderSees : (ℕ → Option Status) → (ℕ → Type 0) → List ℕ → Version → Type 0
ReaderSees status sees own v = VisibleBy (Reads status sees own) v.header

-- a committed id that the reader does not see made or deleted the version
abbrev pub HasMissed : (ℕ → Option Status) → (ℕ → Type 0) → Version → Type 0
HasMissed status sees v = (x : ℕ) × IsNewerCommit status sees x v.header

-- an id of P made or deleted the version
abbrev pub IsBy : (ℕ → Type 0) → Version → Type 0
IsBy P v = (x : ℕ) × Touches x v.header × P x

-- one of the ids made or deleted the version
abbrev pub IsOwn : List ℕ → Version → Type 0
IsOwn own v = IsBy (λ x. Contains own x) v

-- the version at the place
abbrev pub At : (Tid → Option Version) → Tid → Version → Type 0
At store p v = store p ≡ Some v

-- some version of the key meets P
abbrev pub SomeVersion : (Tid → Option Version) → ℕ → (Version → Type 0) → Type 0
SomeVersion store k P = (p : Tid) × (v : Version) × At store p v × (v.row.key ≡ k) × P v

-- what a snapshot is that is taken now: it sees what committed, and nothing in progress
pub record IsFreshSnapshot (status : ℕ → Option Status) (sees : ℕ → Type 0) : Type 0 where
  pub finished : (x : ℕ) → HasCommitted status x → sees x
  pub active : (x : ℕ) → IsRunning status x → ¬ sees x
