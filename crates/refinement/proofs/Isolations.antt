-- What a statement of a session sees, and what its cursor does: by the snapshot that the session keeps, or by what has committed.
use Rattle.std.proofs.Common.{◌≡◌, ℕ, ◌≤◌, List, length, Option, Some, None, refl, ◌⊎◌, inl, inr}
use Rattle.std.specs.Prelude.{IsSome, MatchOption}
use Rattle.xid_circle.specs.declared.Tid.{Tid}
use Rattle.tuple_header.specs.Version.{Version}
use Rattle.commit_status.specs.declared.status.Status.{Status}
use Rattle.commit_status.specs.declared.status.Status.TheVariants.{InProgress, Committed, Aborted}
use Rattle.snapshot.specs.Snap.{Snap}
use Rattle.history.specs.History.{Write, Transaction}
use Rattle.visibility.specs.Seeing.{HasCommitted, IsRunning}
use Rattle.refinement.specs.Heap.{SeenIsolation, seen_by_snapshot, seen_by_statement, SeenSession, Heap, kept_snapshot, IsKeptSnapshot, SightOfStatement}
use Rattle.refinement.specs.Visible.{IsFreshSnapshot}
use Rattle.refinement.specs.Changes.{GivesNext, FinishesIds, SameSight}
use Rattle.refinement.specs.Agrees.{ReaderAgrees, CursorReads}
use Rattle.refinement.proofs.Statuses.{keeps-give, none_given, IsCommitted-give, IsCommitted-finish_old, IsCommitted-abort}

-- what is in progress hasn't committed
pub running_uncommitted : (status : ℕ → Option Status) (x : ℕ) → IsRunning status x → HasCommitted status x → ⊥
running_uncommitted status x active done = cc

-- what is so of what has committed, and of the snapshot that the session keeps, is so of what its statement sees
pub of_statement : (P : (ℕ → Type 0) → (ℕ → Type 0) → Type 0) (status status' : ℕ → Option Status) (sees sees' : Snap → ℕ → Type 0) (isolation : SeenIsolation)
    → P (λ x. HasCommitted status x) (λ x. HasCommitted status' x) → ((snap : Snap) → kept_snapshot isolation ≡ Some snap → P (sees snap) (sees' snap))
    → P (SightOfStatement status sees isolation) (SightOfStatement status' sees' isolation)
of_statement P status status' sees sees' (seen_by_snapshot snap) committed kept = kept snap refl
of_statement P status status' sees sees' (seen_by_statement own) committed kept = committed

-- whether its cursor sees an id
abbrev pub SightOfCursor : (status : ℕ → Option Status) → (sees : Snap → ℕ → Type 0) → SeenIsolation → ℕ → Type 0
SightOfCursor status sees isolation x = MatchOption (kept_snapshot isolation) (HasCommitted status x) (λ snap. sees snap x)

-- and of what its cursor sees, where it keeps one
pub of_cursor : (P : (ℕ → Type 0) → (ℕ → Type 0) → Type 0) (status status' : ℕ → Option Status) (sees sees' : Snap → ℕ → Type 0) (isolation : SeenIsolation)
    → IsSome (kept_snapshot isolation) → ((snap : Snap) → kept_snapshot isolation ≡ Some snap → P (sees snap) (sees' snap))
    → P (SightOfCursor status sees isolation) (SightOfCursor status' sees' isolation)
of_cursor P status status' sees sees' (seen_by_snapshot snap) some kept = kept snap refl
of_cursor P status status' sees sees' (seen_by_statement (Some snap)) some kept = kept snap refl
of_cursor P status status' sees sees' (seen_by_statement None) some kept = absurd (none_given {A = Snap} None refl some)

-- the sight of each snapshot that is kept is as it was
abbrev pub SameSights : Heap → (Snap → ℕ → Type 0) → Type 0
SameSights h sees' = (snap : Snap) → IsKeptSnapshot h.session snap → SameSight h.status (h.sees snap) (sees' snap)

-- no snapshot that is kept sees the id
abbrev pub IsUnseen : Heap → (Snap → ℕ → Type 0) → ℕ → Type 0
IsUnseen h sees' x = (snap : Snap) → IsKeptSnapshot h.session snap → ¬ sees' snap x

-- so it is with a session's statements
pub statement_same : (h : Heap) (status' : ℕ → Option Status) (sees' : Snap → ℕ → Type 0) (s : ℕ) (e : SeenSession) → h.session s ≡ Some e → SameSights h sees'
    → SameSight h.status (λ x. HasCommitted h.status x) (λ x. HasCommitted status' x)
    → SameSight h.status (SightOfStatement h.status h.sees e.isolation) (SightOfStatement status' sees' e.isolation)
statement_same h status' sees' s e at same committed =
    of_statement (λ sees sees'. SameSight h.status sees sees') h.status status' h.sees sees' e.isolation committed (λ snap is. same snap (s, e, at, is))

-- and with its cursor
pub cursor_same : (h : Heap) (status' : ℕ → Option Status) (sees' : Snap → ℕ → Type 0) (s : ℕ) (e : SeenSession) → h.session s ≡ Some e → SameSights h sees'
    → IsSome (kept_snapshot e.isolation) → SameSight h.status (SightOfCursor h.status h.sees e.isolation) (SightOfCursor status' sees' e.isolation)
cursor_same h status' sees' s e at same some =
    of_cursor (λ sees sees'. SameSight h.status sees sees') h.status status' h.sees sees' e.isolation some (λ snap is. same snap (s, e, at, is))

pub statement_unseen : (h : Heap) (status' : ℕ → Option Status) (sees' : Snap → ℕ → Type 0) (s : ℕ) (e : SeenSession) (x : ℕ) → h.session s ≡ Some e → IsUnseen h sees' x
    → IsRunning status' x → ¬ SightOfStatement status' sees' e.isolation x
statement_unseen h status' sees' s e x at unseen active =
    of_statement (λ sees sees'. ¬ sees' x) h.status status' h.sees sees' e.isolation (running_uncommitted status' x active) (λ snap is. unseen snap (s, e, at, is))

pub cursor_unseen : (h : Heap) (status' : ℕ → Option Status) (sees' : Snap → ℕ → Type 0) (s : ℕ) (e : SeenSession) (x : ℕ) → h.session s ≡ Some e → IsUnseen h sees' x
    → IsSome (kept_snapshot e.isolation) → ¬ SightOfCursor status' sees' e.isolation x
cursor_unseen h status' sees' s e x at unseen some =
    of_cursor (λ sees sees'. ¬ sees' x) h.status status' h.sees sees' e.isolation some (λ snap is. unseen snap (s, e, at, is))

-- so what has committed is a fresh sight
pub committed-fresh : (status : ℕ → Option Status) → IsFreshSnapshot status (λ x. HasCommitted status x)
committed-fresh status = record { finished = λ x done. done; active = λ x active done. running_uncommitted status x active done }

-- it is decided what has committed
decided_status : (status : Status) (o : Option Status) → o ≡ Some status → (o ≡ Some Committed) ⊎ (o ≡ Some Committed → ⊥)
decided_status Committed o is = inl is
decided_status InProgress o is = inr (λ done. cc)
decided_status Aborted o is = inr (λ done. cc)

decided_committed : (status : ℕ → Option Status) (x : ℕ) → HasCommitted status x ⊎ (¬ HasCommitted status x)
decided_committed status x = of (status x) refl
  where
    of : (o : Option Status) → status x ≡ o → (status x ≡ Some Committed) ⊎ (status x ≡ Some Committed → ⊥)
    of None is = inr (λ done. cc)
    of (Some s) is = decided_status s (status x) is

-- so it is of what a statement sees, where it is of each snapshot
pub statement_decided : (h : Heap) (isolation : SeenIsolation) → ((snap : Snap) (x : ℕ) → h.sees snap x ⊎ (¬ h.sees snap x)) → (x : ℕ)
    → SightOfStatement h.status h.sees isolation x ⊎ (¬ SightOfStatement h.status h.sees isolation x)
statement_decided h (seen_by_snapshot snap) decided x = decided snap x
statement_decided h (seen_by_statement kept) decided x = decided_committed h.status x

-- Of ids given or rolled back, what has committed is seen as before.
pub committed_sight-give : {status status' : ℕ → Option Status} (x : ℕ) → GivesNext status status' x → SameSight status (λ y. HasCommitted status y) (λ y. HasCommitted status' y)
committed_sight-give x gives y s is = (λ done. keeps-give gives y Committed done, λ done. IsCommitted-give gives y done)

pub committed_sight-abort : {status status' : ℕ → Option Status} (P : ℕ → Type 0) → FinishesIds status status' P Aborted → SameSight status (λ y. HasCommitted status y) (λ y. HasCommitted status' y)
committed_sight-abort P finishes y s is = (λ done. IsCommitted-finish_old finishes y done, λ done. IsCommitted-abort finishes y done)

-- A cursor's reader, after a step.
pub CursorReads-map : {status status' : ℕ → Option Status} {store store' : Tid → Option Version} {history history' : List Transaction} {sees sees' : ℕ → Type 0} {own own' : List ℕ} {writes writes' : List Write}
    → ((start : ℕ) → start ≤ length history → start ≤ length history')
    → ((start : ℕ) → start ≤ length history → ReaderAgrees status store history sees start own writes → ReaderAgrees status' store' history' sees' start own' writes')
    → (((x : ℕ) → IsRunning status x → ¬ sees x) → (x : ℕ) → IsRunning status' x → ¬ sees' x)
    → CursorReads status store history sees own writes → CursorReads status' store' history' sees' own' writes'
CursorReads-map longer to unseen c = record {
  start = c.start;
  began = longer c.start c.began;
  reads = to c.start c.began c.reads;
  active_unseen = unseen c.active_unseen;
}

-- the reader alone is another
pub CursorReads-to : {status : ℕ → Option Status} {store store' : Tid → Option Version} {history : List Transaction} {sees : ℕ → Type 0} {own : List ℕ} {writes writes' : List Write}
    → ((start : ℕ) → ReaderAgrees status store history sees start own writes → ReaderAgrees status store' history sees start own writes')
    → CursorReads status store history sees own writes → CursorReads status store' history sees own writes'
CursorReads-to to c = CursorReads-map (λ start le. le) (λ start le r. to start r) (λ unseen. unseen) c
