-- What each step does to the agreement of another session.
use Rattle.std.proofs.Common.{◌≡◌, ◌≢◌, ℕ, ◌≤◌, List, [], ◌∷◌, ◌++◌, length, Option, refl, subst, inl, inr, arith, length-append}
use Rattle.std.specs.Prelude.{IsSome, Contains}
use Rattle.xid_circle.specs.declared.Tid.{Tid}
use Rattle.tuple_header.specs.Version.{Version}
use Rattle.commit_status.specs.declared.status.Status.{Status}
use Rattle.commit_status.specs.declared.status.Status.TheVariants.{InProgress, Committed, Aborted}
use Rattle.history.specs.History.{Write, Transaction, committed, written}
use Rattle.history.specs.World.{OpenSession, joined, own_write}
use Rattle.history.proofs.HistoryLemmas.{committed-push_before, IsLate-push_cases}
use Rattle.refinement.specs.Heap.{SeenSession}
use Rattle.visibility.specs.Seeing.{HasCommitted, IsRunning, Reads, by_itself, by_others}
use Rattle.refinement.specs.Visible.{ReaderSees}
use Rattle.refinement.specs.Changes.{AddsVersion, Alters, GivesNext, FinishesIds, SameSight}
use Rattle.refinement.specs.Agrees.{ReaderAgrees, Traced, CursorReads, SessionAgrees}
use Rattle.refinement.proofs.Statuses.{keeps-give, IsCommitted-give, IsActive-give_cases, IsCommitted-finish_old, IsCommitted-commit_cases, IsCommitted-abort, IsActive-finish, IsActive-finish_other, Reads-status}
use Rattle.visibility.proofs.Verdicts.{VisibleBy-same}
use Rattle.refinement.proofs.Versions.{active_unread}
use Rattle.refinement.proofs.CursorsLemmas.{KeepsSeen, CursorAgrees-keeps, KeepsSeen-same, KeepsSeen-add, KeepsSeen-alter}
use Rattle.refinement.proofs.Readers.{IsNew, IsDeleted, IsIdle, seen_deleted, seen_undeleted, ReaderAgrees-same, ReaderAgrees-add_other, ReaderAgrees-delete_other, Levels-map}
use Rattle.refinement.proofs.Isolations.{CursorReads-map, CursorReads-to}
use Rattle.refinement.proofs.LevelTraces.{Traced-add_other, Traced-delete_other, nested_of, LevelTraces-map}
use Rattle.refinement.proofs.Traces.{SparesCurrent, TracesAgree-same, TracesAgree-add, TracesAgree-delete, TracesAgree-commit, unseen_still}

pub SessionAgrees-add_other : {status : ℕ → Option Status} {store store' : Tid → Option Version} {history : List Transaction} {sees cursor_sees : ℕ → Type 0} {start : ℕ} {e : SeenSession} {m : OpenSession} (x : ℕ) (place : Tid) (new : Version)
    → AddsVersion store store' place new → IsNew x new → IsRunning status x → ¬ Contains e.own x
    → SessionAgrees status store history sees start cursor_sees e m → SessionAgrees status store' history sees start cursor_sees e m
SessionAgrees-add_other {status} {store} {store'} {history} {sees} {cursor_sees} {start} {e} {m} x place new adds is_new active foreign h = record {
  same_failed = h.same_failed;
  isolation = h.isolation;
  kept = h.kept;
  cursor = CursorAgrees-keeps (λ some. KeepsSeen-add adds (λ seen. active_unread active foreign (seen.made x is_new.made))) h.cursor;
  cursor_reads = λ some. CursorReads-to (λ start r. ReaderAgrees-add_other x place new adds is_new active foreign r) (h.cursor_reads some);
  levels = Levels-map e.own e.saved m.levels (λ own writes among r. ReaderAgrees-add_other x place new adds is_new active (λ mine. foreign (among x mine)) r) h.levels;
  level_traces = LevelTraces-map e.own e.saved m.levels (nested_of status store history sees start e.own e.saved m.levels h.levels) (λ P writes within t. Traced-add_other x place new adds is_new (λ p. foreign (within x p)) t) h.level_traces;
  traces = TracesAgree-add x place new adds is_new active h.traces;
  began = h.began;
  in_time = h.in_time;
  active_unseen = h.active_unseen;
  own_active = h.own_active;
}

pub SessionAgrees-delete_other : {status : ℕ → Option Status} {store store' : Tid → Option Version} {history : List Transaction} {sees cursor_sees : ℕ → Type 0} {start : ℕ} {e : SeenSession} {m : OpenSession} (x : ℕ) (place : Tid) (old new : Version)
    → Alters store store' place old new → IsDeleted x old new → IsRunning status x → ¬ Contains e.own x → IsIdle status e.own old
    → SessionAgrees status store history sees start cursor_sees e m → SessionAgrees status store' history sees start cursor_sees e m
SessionAgrees-delete_other {status} {store} {store'} {history} {sees} {cursor_sees} {start} {e} {m} x place old new alters deleted active foreign idle h = record {
  same_failed = h.same_failed;
  isolation = h.isolation;
  kept = h.kept;
  cursor = CursorAgrees-keeps (λ some. KeepsSeen-alter alters deleted.same_row (seen_deleted deleted active foreign) (seen_undeleted deleted idle)) h.cursor;
  cursor_reads = λ some. CursorReads-to (λ start r. ReaderAgrees-delete_other x place old new alters deleted active foreign idle r) (h.cursor_reads some);
  levels = Levels-map e.own e.saved m.levels (λ own writes among r. ReaderAgrees-delete_other x place old new alters deleted active (λ mine. foreign (among x mine)) (record { uncommitted = idle.uncommitted; foreign = λ y is mine. idle.foreign y is (among y mine) }) r) h.levels;
  level_traces = LevelTraces-map e.own e.saved m.levels (nested_of status store history sees start e.own e.saved m.levels h.levels) (λ P writes within t. Traced-delete_other x place old new alters deleted (λ p. foreign (within x p)) (λ y is p. idle.foreign y is (within y p)) t) h.level_traces;
  traces = TracesAgree-delete x place old new alters deleted active idle.uncommitted h.traces;
  began = h.began;
  in_time = h.in_time;
  active_unseen = h.active_unseen;
  own_active = h.own_active;
}

-- the statuses change, and the reader cannot tell
pub same_reader : {status status' : ℕ → Option Status} {store : Tid → Option Version} {history history' : List Transaction} {sees sees' : ℕ → Type 0} {start : ℕ} (own : List ℕ) (writes : List Write)
    → ((x : ℕ) → HasCommitted status x → HasCommitted status' x) → SameSight status sees sees' → ((x : ℕ) → Reads status' sees' own x → Reads status sees own x)
    → ((k : ℕ) → committed history' start k ≡ committed history start k)
    → ReaderAgrees status store history sees start own writes → ReaderAgrees status' store history' sees' start own writes
same_reader own writes to same back before r =
    ReaderAgrees-same (λ p x v at touch reads. Reads-status (to x) (λ done. (same x Committed done).0) reads) (λ p x v at touch reads. back x reads) (λ x mine. mine) (λ k. refl) before r

-- what is read after a change that commits nothing was read before it
pub reads_before : {status status' : ℕ → Option Status} {sees sees' : ℕ → Type 0} (own : List ℕ) → ((x : ℕ) → HasCommitted status' x → HasCommitted status x) → SameSight status sees sees'
    → (x : ℕ) → Reads status' sees' own x → Reads status sees own x
reads_before own back same x reads = elim reads [
  | by_itself mine ↦ by_itself mine
  | by_others seen done ↦ by_others ((same x Committed (back x done)).1 seen) (back x done)
]

-- and the same versions are seen
pub same_seen : {status status' : ℕ → Option Status} {store : Tid → Option Version} {sees sees' : ℕ → Type 0} (own : List ℕ)
    → ((x : ℕ) → HasCommitted status x → HasCommitted status' x) → SameSight status sees sees' → ((x : ℕ) → Reads status' sees' own x → Reads status sees own x)
    → KeepsSeen store store (ReaderSees status sees own) (ReaderSees status' sees' own)
same_seen {status} {status'} {store} {sees} {sees'} own to same back =
    KeepsSeen-same (λ p v at seen. VisibleBy-same (λ x touch. read x) (λ x touch. back x) seen) (λ p v at seen. VisibleBy-same (λ x touch. back x) (λ x touch. read x) seen)
  where
    read : (x : ℕ) → Reads status sees own x → Reads status' sees' own x
    read x reads = Reads-status (to x) (λ done. (same x Committed done).0) reads

-- nothing that is in progress is seen, after an id is given that isn't, and after some are finished
pub unseen-given : {status status' : ℕ → Option Status} {sees sees' : ℕ → Type 0} {x : ℕ} → GivesNext status status' x → SameSight status sees sees' → ¬ sees' x
    → ((y : ℕ) → IsRunning status y → ¬ sees y) → (y : ℕ) → IsRunning status' y → ¬ sees' y
unseen-given {status} {status'} {sees} {sees'} gives same unseen before y active = elim (IsActive-give_cases gives y active) [
  | inl old ↦ unseen_still same y InProgress old (before y old)
  | inr now ↦ λ seen. unseen (subst (λ z. sees' z) now seen)
]

pub unseen-finished : {status status' : ℕ → Option Status} {sees sees' : ℕ → Type 0} {P : ℕ → Type 0} {end : Status} → end ≢ InProgress → FinishesIds status status' P end → SameSight status sees sees'
    → ((y : ℕ) → IsRunning status y → ¬ sees y) → (y : ℕ) → IsRunning status' y → ¬ sees' y
unseen-finished finished finishes same before y active = let old = (IsActive-finish finished finishes y active).0 in unseen_still same y InProgress old (before y old)

-- another session is given an id
pub SessionAgrees-give_other : {status status' : ℕ → Option Status} {store : Tid → Option Version} {history : List Transaction} {sees sees' cursor_sees cursor_sees' : ℕ → Type 0} {start : ℕ} {e : SeenSession} {m : OpenSession} (x : ℕ)
    → GivesNext status status' x → SameSight status sees sees' → ¬ sees' x → (IsSome e.cursor → SameSight status cursor_sees cursor_sees') → (IsSome e.cursor → ¬ cursor_sees' x)
    → SessionAgrees status store history sees start cursor_sees e m → SessionAgrees status' store history sees' start cursor_sees' e m
SessionAgrees-give_other {status} {status'} {store} {history} {sees} {sees'} {cursor_sees} {cursor_sees'} {start} {e} {m} x gives same unseen cursor_same cursor_unseen h = record {
  same_failed = h.same_failed;
  isolation = h.isolation;
  kept = h.kept;
  cursor = CursorAgrees-keeps (λ some. same_seen e.own (λ y done. keeps-give gives y Committed done) (cursor_same some) (reads_before e.own (λ y done. IsCommitted-give gives y done) (cursor_same some))) h.cursor;
  cursor_reads = λ some. CursorReads-map (λ start le. le)
      (λ start le r. same_reader e.own (joined m.levels) (λ y done. keeps-give gives y Committed done) (cursor_same some) (reads_before e.own (λ y done. IsCommitted-give gives y done) (cursor_same some)) (λ k. refl) r)
      (unseen-given gives (cursor_same some) (cursor_unseen some)) (h.cursor_reads some);
  levels = Levels-map e.own e.saved m.levels (λ own writes among r. same_reader own writes (λ y done. keeps-give gives y Committed done) same (reads_before own (λ y done. IsCommitted-give gives y done) same) (λ k. refl) r) h.levels;
  level_traces = h.level_traces;
  traces = TracesAgree-same (λ y done. keeps-give gives y Committed done) (λ y done. IsCommitted-give gives y done) same h.traces;
  began = h.began;
  in_time = h.in_time;
  active_unseen = unseen-given gives same unseen h.active_unseen;
  own_active = λ y own. keeps-give gives y InProgress (h.own_active y own);
}

-- ids of another session are rolled back
pub SessionAgrees-abort_other : {status status' : ℕ → Option Status} {store : Tid → Option Version} {history : List Transaction} {sees sees' cursor_sees cursor_sees' : ℕ → Type 0} {start : ℕ} {e : SeenSession} {m : OpenSession} (P : ℕ → Type 0)
    → FinishesIds status status' P Aborted → SameSight status sees sees' → (IsSome e.cursor → SameSight status cursor_sees cursor_sees') → ((x : ℕ) → P x → ¬ Contains e.own x)
    → SessionAgrees status store history sees start cursor_sees e m → SessionAgrees status' store history sees' start cursor_sees' e m
SessionAgrees-abort_other {status} {status'} {store} {history} {sees} {sees'} {cursor_sees} {cursor_sees'} {start} {e} {m} P finishes same cursor_same foreign h = record {
  same_failed = h.same_failed;
  isolation = h.isolation;
  kept = h.kept;
  cursor = CursorAgrees-keeps (λ some. same_seen e.own (λ y done. IsCommitted-finish_old finishes y done) (cursor_same some) (reads_before e.own (λ y done. IsCommitted-abort finishes y done) (cursor_same some))) h.cursor;
  cursor_reads = λ some. CursorReads-map (λ start le. le)
      (λ start le r. same_reader e.own (joined m.levels) (λ y done. IsCommitted-finish_old finishes y done) (cursor_same some) (reads_before e.own (λ y done. IsCommitted-abort finishes y done) (cursor_same some)) (λ k. refl) r)
      (unseen-finished (λ is. cc) finishes (cursor_same some)) (h.cursor_reads some);
  levels = Levels-map e.own e.saved m.levels (λ own writes among r. same_reader own writes (λ y done. IsCommitted-finish_old finishes y done) same (reads_before own (λ y done. IsCommitted-abort finishes y done) same) (λ k. refl) r) h.levels;
  level_traces = h.level_traces;
  traces = TracesAgree-same (λ y done. IsCommitted-finish_old finishes y done) (λ y done. IsCommitted-abort finishes y done) same h.traces;
  began = h.began;
  in_time = h.in_time;
  active_unseen = unseen-finished (λ is. cc) finishes same h.active_unseen;
  own_active = λ y own. IsActive-finish_other finishes y (λ p. foreign y p own) (h.own_active y own);
}

-- Another session commits.

-- what is read by who saw none of its ids was read before
pub reads_uncommitted : {status status' : ℕ → Option Status} {sees sees' : ℕ → Type 0} {P : ℕ → Type 0} (own : List ℕ)
    → FinishesIds status status' P Committed → SameSight status sees sees' → ((x : ℕ) → IsRunning status x → ¬ sees x)
    → (x : ℕ) → Reads status' sees' own x → Reads status sees own x
reads_uncommitted own finishes same unseen x (by_itself mine) = by_itself mine
reads_uncommitted own finishes same unseen x (by_others seen done) = elim (IsCommitted-commit_cases finishes x done) [
  | inl theirs ↦ (let active = finishes.active x theirs in absurd (unseen x active ((same x InProgress active).1 seen)))
  | inr old ↦ by_others ((same x Committed old).1 seen) old
]

pub longer : (history : List Transaction) (t : Transaction) (start : ℕ) → start ≤ length history → start ≤ length (history ++ t ∷ [])
longer history t start began = omega (arith, length-append history (t ∷ []))

-- a reader that began before
pub ReaderAgrees-commit_other : {status status' : ℕ → Option Status} {store : Tid → Option Version} {history : List Transaction} {sees sees' : ℕ → Type 0} {P : ℕ → Type 0} (start : ℕ) (own : List ℕ) (writes : List Write) (t : Transaction)
    → FinishesIds status status' P Committed → SameSight status sees sees' → ((x : ℕ) → IsRunning status x → ¬ sees x) → start ≤ length history
    → ReaderAgrees status store history sees start own writes → ReaderAgrees status' store (history ++ t ∷ []) sees' start own writes
ReaderAgrees-commit_other {status} {status'} {store} {history} start own writes t finishes same unseen began r =
    same_reader own writes (λ y done. IsCommitted-finish_old finishes y done) same (reads_uncommitted own finishes same unseen) (λ k. committed-push_before history t start k began) r

-- the cursor of a session, which sees nothing that is in progress
pub CursorReads-commit_other : {status status' : ℕ → Option Status} {store : Tid → Option Version} {history : List Transaction} {sees sees' : ℕ → Type 0} {P : ℕ → Type 0} {own : List ℕ} {writes : List Write} (t : Transaction)
    → FinishesIds status status' P Committed → SameSight status sees sees' → CursorReads status store history sees own writes → CursorReads status' store (history ++ t ∷ []) sees' own writes
CursorReads-commit_other {status} {status'} {store} {history} {sees} {sees'} {P} {own} {writes} t finishes same c =
    CursorReads-map (longer history t) (λ start le r. ReaderAgrees-commit_other start own writes t finishes same c.active_unseen le r) (unseen-finished (λ is. cc) finishes same) c

-- a session by snapshot
pub SessionAgrees-commit_other : {status status' : ℕ → Option Status} {store : Tid → Option Version} {history : List Transaction} {sees sees' cursor_sees cursor_sees' : ℕ → Type 0} {start : ℕ} {e : SeenSession} {m : OpenSession} (own : List ℕ) (t : Transaction)
    → FinishesIds status status' (λ x. Contains own x) Committed → SameSight status sees sees' → (IsSome e.cursor → SameSight status cursor_sees cursor_sees') → ((x : ℕ) → Contains own x → ¬ Contains e.own x)
    → Traced store (λ x. Contains own x) t → SparesCurrent status store own t → ((k : ℕ) → IsSome (own_write m k) → IsSome (written t k) → ⊥)
    → SessionAgrees status store history sees start cursor_sees e m → SessionAgrees status' store (history ++ t ∷ []) sees' start cursor_sees' e m
SessionAgrees-commit_other {status} {status'} {store} {history} {sees} {sees'} {cursor_sees} {cursor_sees'} {start} {e} {m} own t finishes same cursor_same foreign carries spares alone h = record {
  same_failed = h.same_failed;
  isolation = h.isolation;
  kept = h.kept;
  cursor = CursorAgrees-keeps (λ some. same_seen e.own (λ y done. IsCommitted-finish_old finishes y done) (cursor_same some) (reads_uncommitted e.own finishes (cursor_same some) (h.cursor_reads some).active_unseen)) h.cursor;
  cursor_reads = λ some. CursorReads-commit_other t finishes (cursor_same some) (h.cursor_reads some);
  levels = Levels-map e.own e.saved m.levels (λ own' writes among r. ReaderAgrees-commit_other start own' writes t finishes same h.active_unseen h.began r) h.levels;
  level_traces = h.level_traces;
  traces = TracesAgree-commit own t finishes same carries h.began (λ x mine. h.active_unseen x (finishes.active x mine)) spares h.traces;
  began = longer history t start h.began;
  in_time = λ k wrote late. elim (IsLate-push_cases history t start k late) [ inl old ↦ h.in_time k wrote old | inr theirs ↦ alone k wrote theirs ];
  active_unseen = unseen-finished (λ is. cc) finishes same h.active_unseen;
  own_active = λ y mine. IsActive-finish_other finishes y (λ p. foreign y p mine) (h.own_active y mine);
}
