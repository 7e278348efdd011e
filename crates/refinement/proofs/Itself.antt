-- What each step of a session does to its own agreement.
use Rattle.std.proofs.Common.{◌≡◌, ℕ, zero, suc, List, [], ◌∷◌, ◌++◌, length, Option, Some, None, true, false, refl, sym, subst, inl, inr, arith, slice_get}
use Rattle.std.specs.Prelude.{IsSome, Contains}
use Rattle.std.proofs.lemmas.Bool.{cases_eq}
use Rattle.std.proofs.lemmas.List.Elements.{Contains-push, Contains-push_cases, Contains-append_left}
use Rattle.xid_circle.specs.declared.Tid.{Tid}
use Rattle.xid_circle.proofs.Members.{Contains-none}
use Rattle.tuple_header.specs.Version.{Version}
use Rattle.commit_status.specs.declared.status.Status.{Status}
use Rattle.commit_status.specs.declared.status.Status.TheVariants.{InProgress, Committed}
use Rattle.history.specs.History.{Write, Transaction, committed, written, reading, IsLate}
use Rattle.history.specs.World.{Isolation, OpenSession, joined, start_now}
use Rattle.history.specs.Moves.{new_session as new_model, add_write, as_failed, with_write}
use Rattle.history.proofs.HistoryLemmas.{IsLate-now, joined-add_write}
use Rattle.refinement.specs.Heap.{SeenIsolation, SeenSession, Position}
use Rattle.visibility.specs.Seeing.{HasCommitted, IsRunning, Reads, by_itself, by_others, VisibleBy, Touches, inserter, deleter}
use Rattle.refinement.specs.Visible.{IsFreshSnapshot, ReaderSees, At}
use Rattle.snapshot.specs.Own.{saved_with}
use Rattle.refinement.specs.Changes.{AddsVersion, Alters, GivesNext, SameSight, with_id}
use Rattle.refinement.specs.Agrees.{Shows, ReaderAgrees, LevelsAgree, IsSameIsolation, SessionAgrees}
use Rattle.refinement.proofs.ShowsLemmas.{Shows-same}
use Rattle.refinement.proofs.Statuses.{keeps-give, none_given, IsCommitted-give}
use Rattle.visibility.proofs.Verdicts.{VisibleBy-same}
use Rattle.refinement.proofs.Versions.{own-untouched}
use Rattle.refinement.proofs.CursorsLemmas.{CursorAgrees-keeps, CursorAgrees-bare, CursorAgrees-none, KeepsSeen-same, bare_position}
use Rattle.refinement.proofs.Readers.{IsNew, IsDeleted, ReaderAgrees-same, ReaderAgrees-add_other, ReaderAgrees-delete_other, ReaderAgrees-insert, ReaderAgrees-delete, Levels-map, Levels-within, Levels-count, wrote_before}
use Rattle.refinement.proofs.LevelTraces.{Traced-none, Traced-add_other, Traced-delete_other, Traced-insert, Traced-delete, nested_of, IsOfNewest, LevelTraces-write, LevelTraces-give}
use Rattle.refinement.proofs.Traces.{TracesAgree-same, TracesAgree-add, TracesAgree-delete}
use Rattle.refinement.proofs.Isolations.{CursorReads-map}
use Rattle.refinement.proofs.Others.{same_reader, reads_before, unseen-given}

-- what its newest savepoint had, the session has
pub saved_within : {status : ℕ → Option Status} {store : Tid → Option Version} {history : List Transaction} {sees cursor_sees : ℕ → Type 0} {start : ℕ} {e : SeenSession} {m : OpenSession} (before : List ℕ)
    → SessionAgrees status store history sees start cursor_sees e m → slice_get e.saved 0 ≡ Some before → (x : ℕ) → Contains before x → Contains e.own x
saved_within {status} {store} {history} {sees} {cursor_sees} {start} {e} {m} before h is = Levels-within status store history sees start e.own e.saved m.levels before h.levels is

-- it has one level more than it has savepoints
pub levels_count : {status : ℕ → Option Status} {store : Tid → Option Version} {history : List Transaction} {sees cursor_sees : ℕ → Type 0} {start : ℕ} {e : SeenSession} {m : OpenSession}
    → SessionAgrees status store history sees start cursor_sees e m → length m.levels ≡ suc (length e.saved)
levels_count {status} {store} {history} {sees} {cursor_sees} {start} {e} {m} h = Levels-count status store history sees start e.own e.saved m.levels h.levels

-- the id is the session's, of its newest level
pub record IsCurrent (e : SeenSession) (x : ℕ) : Type 0 where
  pub mine : Contains e.own x
  pub newest : (before : List ℕ) → slice_get e.saved 0 ≡ Some before → ¬ Contains before x

of_newest : (own : List ℕ) (saved : List (List ℕ)) (x : ℕ) → Contains own x → ((before : List ℕ) → slice_get saved 0 ≡ Some before → ¬ Contains before x) → IsOfNewest own saved x
of_newest own [] x mine newest = mine
of_newest own (before ∷ saved) x mine newest = (mine, newest before refl)

-- a write: the session as it is has it, and as it was at each savepoint does not
levels_write : {status : ℕ → Option Status} {store store' : Tid → Option Version} {history : List Transaction} {sees : ℕ → Type 0} {start : ℕ} (new : Write) (own : List ℕ) (saved : List (List ℕ)) (levels : List (List Write))
    → (ReaderAgrees status store history sees start own (joined levels) → ReaderAgrees status store' history sees start own (joined levels ++ new ∷ []))
    → ((before own' : List ℕ) (writes : List Write) → slice_get saved 0 ≡ Some before → ((x : ℕ) → Contains before x → Contains own x) → ((x : ℕ) → Contains own' x → Contains before x) → ReaderAgrees status store history sees start own' writes → ReaderAgrees status store' history sees start own' writes)
    → LevelsAgree status store history sees start own saved levels → LevelsAgree status store' history sees start own saved (add_write new levels)
levels_write new own [] [] here there h = absurd h
levels_write {status} {store} {store'} {history} {sees} {start} new own [] (ws ∷ []) here there h =
    subst (λ writes. ReaderAgrees status store' history sees start own writes) (sym (joined-add_write new (ws ∷ []))) (here h)
levels_write new own [] (ws ∷ (vs ∷ levels)) here there h = absurd h
levels_write new own (before ∷ saved) [] here there h = absurd h
levels_write {status} {store} {store'} {history} {sees} {start} new own (before ∷ saved) (ws ∷ levels) here there h = (
  subst (λ writes. ReaderAgrees status store' history sees start own writes) (sym (joined-add_write new (ws ∷ levels))) (here h.0),
  h.1,
  Levels-map before saved levels (λ own' writes among r. there before own' writes refl h.1 among r) h.2,
)

in_time-write : (history : List Transaction) (start : ℕ) (new : Write) (levels : List (List Write)) → ¬ IsLate history start new.key → ((k : ℕ) → IsSome (written (joined levels) k) → ¬ IsLate history start k)
    → (k : ℕ) → IsSome (written (joined (add_write new levels)) k) → ¬ IsLate history start k
in_time-write history start new levels in_time before k wrote late = elim (cases_eq k new.key) [
  | inl same ↦ in_time (subst (λ j. IsLate history start j) same late)
  | inr ne ↦ before k (wrote_before (joined levels) new k ne (subst (λ ws. IsSome (written ws k)) (joined-add_write new levels) wrote)) late
]

pub SessionAgrees-insert : {status : ℕ → Option Status} {store store' : Tid → Option Version} {history : List Transaction} {sees cursor_sees : ℕ → Type 0} {start : ℕ} {e : SeenSession} {m : OpenSession} (x : ℕ) (place : Tid) (new : Version)
    → AddsVersion store store' place new → IsNew x new → IsCurrent e x → m.cursor ≡ None → reading history start (joined m.levels) new.row.key ≡ None → ¬ IsLate history start new.row.key
    → SessionAgrees status store history sees start cursor_sees e m → SessionAgrees status store' history sees start cursor_sees e (with_write history new.row.key (Some new.row) m)
SessionAgrees-insert {status} {store} {store'} {history} {sees} {cursor_sees} {start} {e} {m} x place new adds is_new current bare none in_time h = record {
  same_failed = h.same_failed;
  isolation = h.isolation;
  kept = h.kept;
  cursor = CursorAgrees-bare bare h.cursor;
  cursor_reads = λ some. absurd (bare_position bare h.cursor some);
  levels = levels_write (record { start = start_now history m; key = new.row.key; row = Some new.row }) e.own e.saved m.levels
      (λ r. ReaderAgrees-insert (start_now history m) x place new adds is_new current.mine none r)
      (λ before own' writes is subset among r. ReaderAgrees-add_other x place new adds is_new (h.own_active x current.mine) (λ mine. current.newest before is (among x mine)) r) h.levels;
  level_traces = LevelTraces-write x (record { start = start_now history m; key = new.row.key; row = Some new.row }) e.own e.saved m.levels (nested_of status store history sees start e.own e.saved m.levels h.levels) (of_newest e.own e.saved x current.mine current.newest)
      (λ P writes mine t. Traced-insert (start_now history m) x place new adds is_new mine t) (λ P writes other within t. Traced-add_other x place new adds is_new other t) h.level_traces;
  traces = TracesAgree-add x place new adds is_new (h.own_active x current.mine) h.traces;
  began = h.began;
  in_time = in_time-write history start (record { start = start_now history m; key = new.row.key; row = Some new.row }) m.levels in_time h.in_time;
  active_unseen = h.active_unseen;
  own_active = h.own_active;
}

pub SessionAgrees-delete : {status : ℕ → Option Status} {store store' : Tid → Option Version} {history : List Transaction} {sees cursor_sees : ℕ → Type 0} {start : ℕ} {e : SeenSession} {m : OpenSession} (x : ℕ) (place : Tid) (old new : Version)
    → Alters store store' place old new → IsDeleted x old new → IsCurrent e x → m.cursor ≡ None → ReaderSees status sees e.own old → ¬ IsLate history start old.row.key → ((y : ℕ) → deleter old.header ≡ Some y → ¬ HasCommitted status y)
    → SessionAgrees status store history sees start cursor_sees e m → SessionAgrees status store' history sees start cursor_sees e (with_write history old.row.key None m)
SessionAgrees-delete {status} {store} {store'} {history} {sees} {cursor_sees} {start} {e} {m} x place old new alters deleted current bare seen in_time dead h = record {
  same_failed = h.same_failed;
  isolation = h.isolation;
  kept = h.kept;
  cursor = CursorAgrees-bare bare h.cursor;
  cursor_reads = λ some. absurd (bare_position bare h.cursor some);
  levels = levels_write (record { start = start_now history m; key = old.row.key; row = None }) e.own e.saved m.levels
      (λ r. ReaderAgrees-delete (start_now history m) x place old new alters deleted current.mine seen r)
      (λ before own' writes is subset among r. ReaderAgrees-delete_other x place old new alters deleted (h.own_active x current.mine) (λ mine. current.newest before is (among x mine))
      (record { uncommitted = dead; foreign = λ y is mine. seen.kept y is (by_itself (subset y (among y mine))) }) r) h.levels;
  level_traces = LevelTraces-write x (record { start = start_now history m; key = old.row.key; row = None }) e.own e.saved m.levels (nested_of status store history sees start e.own e.saved m.levels h.levels) (of_newest e.own e.saved x current.mine current.newest)
      (λ P writes mine t. Traced-delete (start_now history m) x place old new alters deleted mine t)
      (λ P writes other within t. Traced-delete_other x place old new alters deleted other (λ y is p. seen.kept y is (by_itself (within y p))) t) h.level_traces;
  traces = TracesAgree-delete x place old new alters deleted (h.own_active x current.mine) dead h.traces;
  began = h.began;
  in_time = in_time-write history start (record { start = start_now history m; key = old.row.key; row = None }) m.levels in_time h.in_time;
  active_unseen = h.active_unseen;
  own_active = h.own_active;
}

-- what is read when the reader has been given an id that touches nothing

reads_given : {status status' : ℕ → Option Status} {sees sees' : ℕ → Type 0} {x : ℕ} → GivesNext status status' x → SameSight status sees sees'
    → (own : List ℕ) (y : ℕ) → Reads status sees own y → Reads status' sees' (own ++ x ∷ []) y
reads_given {status} {status'} {sees} {sees'} {x} gives same own y (by_itself mine) = by_itself (Contains-append_left own (x ∷ []) y mine)
reads_given gives same own y (by_others seen done) = by_others ((same y Committed done).0 seen) (keeps-give gives y Committed done)

read_given : {status status' : ℕ → Option Status} {store : Tid → Option Version} {sees sees' : ℕ → Type 0} {x : ℕ} → GivesNext status status' x → SameSight status sees sees' → ((p : Tid) (v : Version) → At store p v → ¬ Touches x v.header)
    → (own : List ℕ) (p : Tid) (y : ℕ) (v : Version) → At store p v → Touches y v.header → Reads status' sees' (own ++ x ∷ []) y → Reads status sees own y
read_given {status} {status'} {store} {sees} {sees'} {x} gives same untouched own p y v at touch (by_itself mine) = by_itself (own-untouched x own untouched p y v at touch mine)
read_given gives same untouched own p y v at touch (by_others seen done) = let was = IsCommitted-give gives y done in by_others ((same y Committed was).1 seen) was

ReaderAgrees-given : {status status' : ℕ → Option Status} {store : Tid → Option Version} {history : List Transaction} {sees sees' : ℕ → Type 0} {start x : ℕ} → GivesNext status status' x → SameSight status sees sees' → ((p : Tid) (v : Version) → At store p v → ¬ Touches x v.header)
    → (own : List ℕ) (writes : List Write) → ReaderAgrees status store history sees start own writes → ReaderAgrees status' store history sees' start (own ++ x ∷ []) writes
ReaderAgrees-given {x = x} gives same untouched own writes r = ReaderAgrees-same (λ p y v at touch. reads_given gives same own y) (read_given gives same untouched own)
    (λ y mine. Contains-append_left own (x ∷ []) y mine) (λ k. refl) (λ k. refl) r

-- the session is given an id, of any of its levels
pub SessionAgrees-give : {status status' : ℕ → Option Status} {store : Tid → Option Version} {history : List Transaction} {sees sees' cursor_sees cursor_sees' : ℕ → Type 0} {start : ℕ} {e : SeenSession} {m : OpenSession} (n x : ℕ)
    → GivesNext status status' x → SameSight status sees sees' → ¬ sees' x → (IsSome e.cursor → SameSight status cursor_sees cursor_sees') → (IsSome e.cursor → ¬ cursor_sees' x)
    → ((p : Tid) (y : ℕ) (v : Version) → At store p v → Touches y v.header → IsSome (status y))
    → SessionAgrees status store history sees start cursor_sees e m
    → SessionAgrees status' store history sees' start cursor_sees' (with_id n x e) m
SessionAgrees-give {status} {status'} {store} {history} {sees} {sees'} {cursor_sees} {cursor_sees'} {start} {e} {m} n x gives same unseen cursor_same cursor_unseen given h = record {
  same_failed = h.same_failed;
  isolation = h.isolation;
  kept = h.kept;
  cursor = CursorAgrees-keeps (λ some. KeepsSeen-same (λ p v at seen. VisibleBy-same (λ y touch. reads_given gives (cursor_same some) e.own y) (λ y touch. read_given gives (cursor_same some) untouched e.own p y v at touch) seen)
      (λ p v at seen. VisibleBy-same (λ y touch. read_given gives (cursor_same some) untouched e.own p y v at touch) (λ y touch. reads_given gives (cursor_same some) e.own y) seen)) h.cursor;
  cursor_reads = λ some. CursorReads-map (λ start le. le) (λ start le r. ReaderAgrees-given gives (cursor_same some) untouched e.own (joined m.levels) r)
      (unseen-given gives (cursor_same some) (cursor_unseen some)) (h.cursor_reads some);
  levels = levels n e.own e.saved m.levels h.levels;
  level_traces = LevelTraces-give n x e.own e.saved m.levels untouched h.level_traces;
  traces = TracesAgree-same (λ y done. keeps-give gives y Committed done) (λ y done. IsCommitted-give gives y done) same h.traces;
  began = h.began;
  in_time = h.in_time;
  active_unseen = unseen-given gives same unseen h.active_unseen;
  own_active = λ y mine. elim (Contains-push_cases e.own x y mine) [
    | inl old ↦ keeps-give gives y InProgress (h.own_active y old)
    | inr now ↦ subst (λ z. IsRunning status' z) now gives.active
  ];
}
  where
    untouched : (p : Tid) (v : Version) → At store p v → ¬ Touches x v.header
    untouched p v at touch = none_given (status x) gives.fresh (given p x v at touch)

    top : (own : List ℕ) (writes : List Write) → ReaderAgrees status store history sees start own writes → ReaderAgrees status' store history sees' start (own ++ x ∷ []) writes
    top own writes r = ReaderAgrees-given gives same untouched own writes r

    levels : (n : ℕ) (own : List ℕ) (saved : List (List ℕ)) (levels : List (List Write)) → LevelsAgree status store history sees start own saved levels
        → LevelsAgree status' store history sees' start (own ++ x ∷ []) (saved_with n x saved) levels
    levels n own [] [] h = absurd h
    levels zero own [] (ws ∷ []) h = top own (joined (ws ∷ [])) h
    levels (suc n) own [] (ws ∷ []) h = top own (joined (ws ∷ [])) h
    levels n own [] (ws ∷ (vs ∷ rest)) h = absurd h
    levels n own (before ∷ saved) [] h = absurd h
    levels (suc n) own (before ∷ saved) (ws ∷ rest) h = (
      top own (joined (ws ∷ rest)) h.0,
      λ y mine. elim (Contains-push_cases before x y mine) [
        | inl old ↦ Contains-append_left own (x ∷ []) y (h.1 y old)
        | inr now ↦ subst (λ z. Contains (own ++ x ∷ []) z) now (Contains-push own x)
      ],
      levels n before saved rest h.2,
    )
    levels zero own (before ∷ saved) (ws ∷ rest) h = (
      top own (joined (ws ∷ rest)) h.0,
      λ y mine. Contains-append_left own (x ∷ []) y (h.1 y mine),
      Levels-map before saved rest (λ own' writes among r. same_reader own' writes (λ y done. keeps-give gives y Committed done) same (reads_before own' (λ y done. IsCommitted-give gives y done) same) (λ k. refl) r) h.2,
    )

-- the session fails
pub SessionAgrees-fail : {status : ℕ → Option Status} {store : Tid → Option Version} {history : List Transaction} {sees cursor_sees : ℕ → Type 0} {start : ℕ} {e : SeenSession} {m : OpenSession}
    → SessionAgrees status store history sees start cursor_sees e m → SessionAgrees status store history sees start cursor_sees (record e { failed = true }) (as_failed m)
SessionAgrees-fail h = record {
  same_failed = refl;
  isolation = h.isolation;
  kept = h.kept;
  cursor = h.cursor;
  cursor_reads = h.cursor_reads;
  levels = h.levels;
  level_traces = h.level_traces;
  traces = h.traces;
  began = h.began;
  in_time = h.in_time;
  active_unseen = h.active_unseen;
  own_active = h.own_active;
}

-- a session as it begins
abbrev pub new_session : SeenIsolation → SeenSession
new_session isolation = record { isolation = isolation; own = []; saved = []; failed = false; cursor = None }

-- it reads what has committed
pub SessionAgrees-begin : {status : ℕ → Option Status} {store : Tid → Option Version} {history : List Transaction} {sees cursor_sees : ℕ → Type 0} (isolation : SeenIsolation) (model : Isolation)
    → IsSameIsolation isolation model → IsFreshSnapshot status sees
    → Shows store (λ v. VisibleBy (HasCommitted status) v.header) (committed history (length history))
    → ((p : Tid) (y : ℕ) (v : Version) → At store p v → deleter v.header ≡ Some y → HasCommitted status y → (x : ℕ) → inserter v.header ≡ Some x → HasCommitted status x)
    → SessionAgrees status store history sees (length history) cursor_sees (new_session isolation) (new_model model)
SessionAgrees-begin {status} {store} {history} {sees} {cursor_sees} isolation model same fresh current made = record {
  same_failed = refl;
  isolation = same;
  kept = λ some. absurd (none_given {A = Position} None refl some);
  cursor = CursorAgrees-none refl refl;
  cursor_reads = λ some. absurd (none_given {A = Position} None refl some);
  levels = record {
    rows = Shows-same (λ p v at seen. VisibleBy-same (λ x touch. to x) (λ x touch. back x) seen) (λ p v at seen. VisibleBy-same (λ x touch. back x) (λ x touch. to x) seen) (λ k. refl) current;
    whole = λ p y v at is reads x inserter. to x (made p y v at is (back y reads) x inserter);
    covers = λ p v at seen wrote. cc;
  };
  level_traces = Traced-none Contains-none;
  traces = record {
    late_missed = λ k late. absurd (IsLate-now history k late);
    missed_late = λ p v at missed. absurd (missed.1.2 (fresh.finished missed.0 missed.1.1));
    timely = λ p v at current by late. IsLate-now history v.row.key late;
  };
  began = omega arith;
  in_time = λ k wrote. cc;
  active_unseen = fresh.active;
  own_active = λ x own. absurd (Contains-none x own);
}
  where
    to : (x : ℕ) → HasCommitted status x → Reads status sees [] x
    to x done = by_others (fresh.finished x done) done

    back : (x : ℕ) → Reads status sees [] x → HasCommitted status x
    back x (by_itself own) = absurd (Contains-none x own)
    back x (by_others seen done) = done
