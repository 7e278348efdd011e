-- Which versions a snapshot sees, with ids of its owner's own, by a table of ids; and which nobody sees any more.
use Rattle.std.specs.Prelude.{◌≡◌, ℕ, true, List, Option}
use Rattle.std.specs.Option.{option_map}
use Rattle.xid_circle.specs.Circle.{Precedes}
use Rattle.tuple_header.specs.declared.version.Header.{Header}
use Rattle.tuple_header.specs.Marks.{is_frozen}
use Rattle.commit_status.specs.declared.status.Status.{Status}
use Rattle.commit_status.specs.Window.{Window, IsCommitted, IsAborted, place, status_of}
use Rattle.snapshot.specs.Snap.{Snap, Sees}
use Rattle.visibility.specs.Seeing.{Reads, VisibleBy, IsNewerCommit, IsOtherWriter}

-- its marks say that everybody sees its inserter
abbrev pub IsFrozen : Header → Type 0
IsFrozen h = is_frozen h ≡ true

-- what became of an id of the window
abbrev pub state_of : Window → ℕ → Option Status
state_of w x = option_map (λ _. status_of w x) (place w x)

-- the reader counts what an id did
abbrev pub ReadsIn : Window → Snap → List ℕ → ℕ → Type 0
ReadsIn w s own x = Reads (state_of w) (λ x. Sees s w x) own x

-- the reader sees the version
abbrev pub IsVisible : Window → Snap → List ℕ → Header → Type 0
IsVisible w s own h = VisibleBy (ReadsIn w s own) h

-- a committed id that the snapshot does not see made or deleted it
abbrev pub IsNewerCommitIn : Window → Snap → ℕ → Header → Type 0
IsNewerCommitIn w s x h = IsNewerCommit (state_of w) (λ x. Sees s w x) x h

-- an id in progress that is none of these did
abbrev pub IsOtherWriterIn : Window → List ℕ → ℕ → Header → Type 0
IsOtherWriterIn w own x h = IsOtherWriter (state_of w) own x h

-- Nobody sees the version, now or later: it was rolled back, or its deleter committed before the horizon. (The
-- manual's "Routine Vacuuming": a version is removed once no transaction can see it.)
pub data IsDead (w : Window) (horizon : ℕ) (h : Header) : Type 0 where
  never_was : ¬ IsFrozen h → IsAborted w h.xmin.0 → IsDead w horizon h
  is_past : IsCommitted w h.xmax.0 → Precedes h.xmax.0 horizon → IsDead w horizon h
