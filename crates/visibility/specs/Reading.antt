-- What a reader sees, and what it has to know before it writes.
use Rattle.std.specs.Prelude.{◌≡◌, ◌⊎◌, ℕ}
use Rattle.tuple_header.specs.declared.version.Header.{Header}
use Rattle.snapshot.specs.Snap.{Sees}
use Rattle.visibility.specs.Seeing.{HasCommitted}
use Rattle.visibility.specs.Visible.{IsFrozen, ReadsIn, IsVisible, IsOtherWriterIn, IsNewerCommitIn, state_of}
use Rattle.visibility.specs.declared.reader.Reader.{Reader}

-- it counts what the id did
abbrev pub IsReadBy : Reader → ℕ → Type 0
IsReadBy r x = ReadsIn r.statuses.now r.snapshot.now r.own.now.ids x

-- it sees a version with this header
abbrev pub IsSeenBy : Reader → Header → Type 0
IsSeenBy r h = IsVisible r.statuses.now r.snapshot.now r.own.now.ids h

-- the id is committed, its snapshot does not see it, and it made or deleted the version
abbrev pub IsNewerCommitFor : Reader → ℕ → Header → Type 0
IsNewerCommitFor r x h = IsNewerCommitIn r.statuses.now r.snapshot.now x h

-- the id is in progress, none of its own, and made or deleted the version
abbrev pub IsOtherWriterFor : Reader → ℕ → Header → Type 0
IsOtherWriterFor r x h = IsOtherWriterIn r.statuses.now r.own.now.ids x h

-- nobody deleted the version, and it is frozen, or its inserter is committed and the snapshot sees it
pub record IsPlainFor (r : Reader) (h : Header) : Type 0 where
  pub undeleted : h.xmax.0 ≡ 0
  pub made : IsFrozen h ⊎ (HasCommitted (state_of r.statuses.now) h.xmin.0 × Sees r.snapshot.now r.statuses.now h.xmin.0)
