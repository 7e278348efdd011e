-- What setting a savepoint, returning to it and releasing it do to the agreement.
use Rattle.std.proofs.Common.{◌≡◌, ℕ, List, [], ◌∷◌, slice_get, Option, Some, None, false, refl, sym, ap, subst, inl, inr}
use Rattle.std.specs.Prelude.{IsSome, Contains}
use Rattle.std.specs.Option.{option_map}
use Rattle.std.proofs.lemmas.List.{append-nil}
use Rattle.xid_circle.specs.declared.Tid.{Tid}
use Rattle.tuple_header.specs.Version.{Version}
use Rattle.commit_status.specs.declared.status.Status.{Status}
use Rattle.commit_status.specs.declared.status.Status.TheVariants.{Aborted}
use Rattle.snapshot.specs.Snap.{Snap}
use Rattle.history.specs.History.{Write, Transaction, written}
use Rattle.history.specs.World.{World, OpenSession, joined, own_write, start_now}
use Rattle.history.specs.Moves.{put, change, with_savepoint, empty_newest, to_savepoint, rolled_back_to, join_newest, without_savepoint}
use Rattle.history.proofs.HistoryLemmas.{joined-join_newest}
use Rattle.history.proofs.HistoryLemmas.{fewer-written}
use Rattle.history.proofs.RunLemmas.{fewer-empty_newest}
use Rattle.refinement.specs.Heap.{SeenSession, Heap, SightOfStatement, StatementSees, CursorSees}
use Rattle.refinement.specs.Changes.{FinishesIds, SameSight}
use Rattle.refinement.specs.Agrees.{ReaderAgrees, LevelsAgree, LevelTraces, SessionAgrees, HeapAgrees}
use Rattle.refinement.proofs.Statuses.{IsCommitted-finish_old, IsCommitted-abort, IsActive-finish_other, Finishes-none, none_given}
use Rattle.refinement.proofs.CursorsLemmas.{CursorAgrees-bare}
use Rattle.refinement.proofs.Readers.{Levels-map, Levels-top}
use Rattle.refinement.proofs.LevelTraces.{Traced-none, Traced-join, Nested, nested_of}
use Rattle.refinement.proofs.Traces.{TracesAgree-same}
use Rattle.refinement.proofs.Isolations.{SightOfCursor, SameSights, CursorReads-to, statement_same, committed_sight-abort}
use Rattle.refinement.proofs.Others.{same_reader, reads_before, unseen-finished}
use Rattle.refinement.proofs.Itself.{saved_within}
use Rattle.refinement.proofs.Steps.{OnlyIs, same_sights, cases_Contains, Agrees-put, Agrees-waits}

-- without the newest level no more keys are written
fewer_keys : (levels : List (List Write)) (k : ℕ) → IsSome (written (joined (empty_newest levels)) k) → IsSome (written (joined levels) k)
fewer_keys levels = fewer-written (joined (empty_newest levels)) (joined levels) (fewer-empty_newest levels)

-- an empty level says nothing
joined-empty : (levels : List (List Write)) → joined ([] ∷ levels) ≡ joined levels
joined-empty levels = append-nil (joined levels)

-- the session as it is could be returned to
pub SessionAgrees-save : {status : ℕ → Option Status} {store : Tid → Option Version} {history : List Transaction} {sees cursor_sees : ℕ → Type 0} {start : ℕ} {e : SeenSession} {m : OpenSession}
    → SessionAgrees status store history sees start cursor_sees e m → SessionAgrees status store history sees start cursor_sees (record e { saved = e.own ∷ e.saved }) (with_savepoint m)
SessionAgrees-save {status} {store} {history} {sees} {cursor_sees} {start} {e} {m} h = record {
  same_failed = h.same_failed;
  isolation = h.isolation;
  kept = h.kept;
  cursor = h.cursor;
  cursor_reads = λ some. CursorReads-to (λ start r. subst (λ writes. ReaderAgrees status store history cursor_sees start e.own writes) (sym (joined-empty m.levels)) r) (h.cursor_reads some);
  levels = (subst (λ writes. ReaderAgrees status store history sees start e.own writes) (sym (joined-empty m.levels)) (Levels-top e.own e.saved m.levels h.levels), λ x mine. mine, h.levels);
  level_traces = (Traced-none (λ x is. is.1 is.0), h.level_traces);
  traces = h.traces;
  began = h.began;
  in_time = λ k wrote. h.in_time k (subst (λ writes. IsSome (written writes k)) (joined-empty m.levels) wrote);
  active_unseen = h.active_unseen;
  own_active = h.own_active;
}

-- the newest level has no id, and no write
emptied : (store : Tid → Option Version) (own before : List ℕ) (older : List (List ℕ)) (levels : List (List Write)) → LevelTraces store own (before ∷ older) levels → LevelTraces store before (before ∷ older) (empty_newest levels)
emptied _ own before older [] h = absurd h
emptied _ own before older (ws ∷ levels) h = (Traced-none (λ x is. is.1 is.0), h.1)

-- the ids since the newest savepoint are rolled back, and the writes since forgotten
pub SessionAgrees-roll_back : {status status' : ℕ → Option Status} {store : Tid → Option Version} {history : List Transaction} {sees sees' cursor_sees cursor_sees' : ℕ → Type 0} {start : ℕ} {e : SeenSession} {m : OpenSession} (before : List ℕ) (older : List (List ℕ))
    → e.saved ≡ before ∷ older → e.cursor ≡ None → FinishesIds status status' (λ x. Contains e.own x × (¬ Contains before x)) Aborted → SameSight status sees sees'
    → SessionAgrees status store history sees start cursor_sees e m → SessionAgrees status' store history sees' start cursor_sees' (record e { own = before; failed = false }) (to_savepoint m)
SessionAgrees-roll_back {status} {status'} {store} {history} {sees} {sees'} {cursor_sees} {cursor_sees'} {start} {e} {m} before older is bare finishes same h = record {
  same_failed = refl;
  isolation = h.isolation;
  kept = h.kept;
  cursor = CursorAgrees-bare (h.cursor.closed bare) h.cursor;
  cursor_reads = λ some. absurd (none_given e.cursor bare some);
  levels = subst (λ saved. LevelsAgree status' store history sees' start before saved (empty_newest m.levels)) (sym is)
      (back e.own m.levels (subst (λ saved. LevelsAgree status store history sees start e.own saved m.levels) is h.levels));
  level_traces = subst (λ saved. LevelTraces store before saved (empty_newest m.levels)) (sym is) (emptied store e.own before older m.levels (subst (λ saved. LevelTraces store e.own saved m.levels) is h.level_traces));
  traces = TracesAgree-same (λ y done. IsCommitted-finish_old finishes y done) (λ y done. IsCommitted-abort finishes y done) same h.traces;
  began = h.began;
  in_time = λ k wrote. h.in_time k (fewer_keys m.levels k wrote);
  active_unseen = unseen-finished (λ is. cc) finishes same h.active_unseen;
  own_active = λ y mine. IsActive-finish_other finishes y (λ p. p.1 mine) (h.own_active y (saved_within before h (ap (λ saved. slice_get saved 0) is) y mine));
}
  where
    back : (own : List ℕ) (levels : List (List Write)) → LevelsAgree status store history sees start own (before ∷ older) levels → LevelsAgree status' store history sees' start before (before ∷ older) (empty_newest levels)
    back own [] h = absurd h
    back own (ws ∷ levels) h =
        let kept = Levels-map before older levels (λ own' writes among r. same_reader own' writes (λ y done. IsCommitted-finish_old finishes y done) same (reads_before own' (λ y done. IsCommitted-abort finishes y done) same) (λ k. refl) r) h.2 in
        (subst (λ writes. ReaderAgrees status' store history sees' start before writes) (sym (joined-empty levels)) (Levels-top before older levels kept), λ x mine. mine, kept)

-- the ids of two levels are those of one
joined_traces : (store : Tid → Option Version) (own before : List ℕ) (older : List (List ℕ)) (levels : List (List Write)) → Nested own (before ∷ older)
    → LevelTraces store own (before ∷ older) levels → LevelTraces store own older (join_newest levels)
joined_traces _ own before older [] nested h = absurd h
joined_traces _ own before [] (ws ∷ []) nested h = absurd h.1
joined_traces _ own before (first ∷ older) (ws ∷ []) nested h = absurd h.1
joined_traces _ own before [] (ws ∷ (vs ∷ [])) nested h =
    Traced-join ws vs (λ x mine. elim (cases_Contains before x) [ inl old ↦ inr old | inr new ↦ inl (mine, new) ]) (λ x new. new.0) (λ x old. nested.0 x old) h.0 h.1
joined_traces _ own before [] (ws ∷ (vs ∷ (us ∷ levels))) nested h = absurd h.1
joined_traces _ own before (first ∷ older) (ws ∷ (vs ∷ levels)) nested h = (
  Traced-join ws vs (λ x mine. elim (cases_Contains before x) [ inl old ↦ inr (old, mine.1) | inr new ↦ inl (mine.0, new) ])
      (λ x new. (new.0, λ among. new.1 (nested.1.0 x among))) (λ x old. (nested.0 x old.0, old.1)) h.0 h.1.0,
  h.1.1,
)

-- the newest savepoint is forgotten, and its level joins the one below
pub SessionAgrees-release : {status : ℕ → Option Status} {store : Tid → Option Version} {history : List Transaction} {sees cursor_sees : ℕ → Type 0} {start : ℕ} {e : SeenSession} {m : OpenSession} (before : List ℕ) (older : List (List ℕ))
    → e.saved ≡ before ∷ older → SessionAgrees status store history sees start cursor_sees e m → SessionAgrees status store history sees start cursor_sees (record e { saved = older }) (without_savepoint m)
SessionAgrees-release {status} {store} {history} {sees} {cursor_sees} {start} {e} {m} before older is h = record {
  same_failed = h.same_failed;
  isolation = h.isolation;
  kept = h.kept;
  cursor = h.cursor;
  cursor_reads = λ some. CursorReads-to (λ start r. subst (λ writes. ReaderAgrees status store history cursor_sees start e.own writes) (sym (joined-join_newest m.levels)) r) (h.cursor_reads some);
  levels = joins older m.levels (subst (λ saved. LevelsAgree status store history sees start e.own saved m.levels) is h.levels);
  level_traces = joined_traces store e.own before older m.levels (subst (λ saved. Nested e.own saved) is (nested_of status store history sees start e.own e.saved m.levels h.levels)) (subst (λ saved. LevelTraces store e.own saved m.levels) is h.level_traces);
  traces = h.traces;
  began = h.began;
  in_time = λ k wrote. h.in_time k (subst (λ writes. IsSome (written writes k)) (joined-join_newest m.levels) wrote);
  active_unseen = h.active_unseen;
  own_active = h.own_active;
}
  where
    top : (levels : List (List Write)) → ReaderAgrees status store history sees start e.own (joined levels) → ReaderAgrees status store history sees start e.own (joined (join_newest levels))
    top levels r = subst (λ writes. ReaderAgrees status store history sees start e.own writes) (sym (joined-join_newest levels)) r

    joins : (older : List (List ℕ)) (levels : List (List Write)) → LevelsAgree status store history sees start e.own (before ∷ older) levels → LevelsAgree status store history sees start e.own older (join_newest levels)
    joins older [] h = absurd h
    joins [] (ws ∷ []) h = absurd h.2
    joins (first ∷ older) (ws ∷ []) h = absurd h.2
    joins [] (ws ∷ (vs ∷ [])) h = top (ws ∷ (vs ∷ [])) h.0
    joins [] (ws ∷ (vs ∷ (us ∷ levels))) h = absurd h.2
    joins (first ∷ older) (ws ∷ (vs ∷ levels)) h = (top (ws ∷ (vs ∷ levels)) h.0, λ x mine. h.1 x (h.2.1 x mine), h.2.2)

-- one session alone changes, as the model's does
pub Agrees-change : (h : Heap) (w : World) (s : ℕ) (e e' : SeenSession) (f : OpenSession → OpenSession) (status' : ℕ → Option Status) (sees' : Snap → ℕ → Type 0) (session' : ℕ → Option SeenSession)
    → OnlyIs h.session session' s (Some e') → h.session s ≡ Some e → FinishesIds h.status status' (λ x. Contains e.own x × (¬ Contains e'.own x)) Aborted → SameSights h sees'
    → ((m : OpenSession) → SessionAgrees h.status h.version w.history (StatementSees h e.isolation) (start_now w.history m) (CursorSees h e.isolation) e m → (x : ℕ) → Contains e'.own x → Contains e.own x)
    → ((m : OpenSession) (k : ℕ) → IsSome (own_write (f m) k) → IsSome (own_write m k))
    → ((m : OpenSession) → SessionAgrees h.status h.version w.history (StatementSees h e.isolation) (start_now w.history m) (CursorSees h e.isolation) e m → SessionAgrees status' h.version w.history (SightOfStatement status' sees' e'.isolation) (start_now w.history (f m)) (SightOfCursor status' sees' e'.isolation) e' (f m))
    → HeapAgrees h w → HeapAgrees (record h { status = status'; sees = sees'; session = session' }) (change w s f)
Agrees-change h w s e e' f status' sees' session' only at finishes same fewer kept mine agrees =
    let open_ = agrees.opened s e at in
    subst (λ o. HeapAgrees (record h { status = status'; sees = sees'; session = session' }) (put w s (option_map f o))) (sym open_.1)
    (Agrees-put h w s e e' open_.0 (f open_.0) status' sees' session' only at open_.1 finishes same (fewer open_.0 open_.2) (kept open_.0) (mine open_.0 open_.2) agrees)

-- a session sets a savepoint
pub Agrees-save : (h : Heap) (w : World) (s : ℕ) (e : SeenSession) (session' : ℕ → Option SeenSession)
    → OnlyIs h.session session' s (Some (record e { saved = e.own ∷ e.saved })) → h.session s ≡ Some e
    → HeapAgrees h w → HeapAgrees (record h { session = session' }) (change w s with_savepoint)
Agrees-save h w s e session' only at agrees =
    Agrees-change h w s e (record e { saved = e.own ∷ e.saved }) with_savepoint h.status h.sees session' only at (Finishes-none h.status e.own) (same_sights h) (λ m mine x ours. ours)
    (λ m k wrote. subst (λ writes. IsSome (written writes k)) (joined-empty m.levels) wrote) (λ m mine. SessionAgrees-save mine) agrees

-- a session returns to its newest savepoint: the ids that it was given since are rolled back
pub Agrees-roll_back : (h : Heap) (w : World) (s : ℕ) (e : SeenSession) (before : List ℕ) (older : List (List ℕ)) (status' : ℕ → Option Status) (sees' : Snap → ℕ → Type 0) (session' : ℕ → Option SeenSession)
    → OnlyIs h.session session' s (Some (record e { own = before; failed = false })) → h.session s ≡ Some e → e.saved ≡ before ∷ older → e.cursor ≡ None
    → FinishesIds h.status status' (λ x. Contains e.own x × (¬ Contains before x)) Aborted → SameSights h sees'
    → HeapAgrees h w → HeapAgrees (record h { status = status'; sees = sees'; session = session' }) (rolled_back_to w s)
Agrees-roll_back h w s e before older status' sees' session' only at is bare finishes same agrees =
    Agrees-waits (record h { status = status'; sees = sees'; session = session' }) (change w s to_savepoint) (rolled_back_to w s).waits_for
    (Agrees-change h w s e (record e { own = before; failed = false }) to_savepoint status' sees' session' only at finishes same
    (λ m mine. saved_within before mine (ap (λ saved. slice_get saved 0) is))
    (λ m k wrote. fewer_keys m.levels k wrote) (λ m mine. SessionAgrees-roll_back before older is bare finishes (statement_same h status' sees' s e at same (committed_sight-abort (λ x. Contains e.own x × (¬ Contains before x)) finishes)) mine) agrees)

-- a session forgets its newest savepoint
pub Agrees-release : (h : Heap) (w : World) (s : ℕ) (e : SeenSession) (before : List ℕ) (older : List (List ℕ)) (session' : ℕ → Option SeenSession)
    → OnlyIs h.session session' s (Some (record e { saved = older })) → h.session s ≡ Some e → e.saved ≡ before ∷ older
    → HeapAgrees h w → HeapAgrees (record h { session = session' }) (change w s without_savepoint)
Agrees-release h w s e before older session' only at is agrees =
    Agrees-change h w s e (record e { saved = older }) without_savepoint h.status h.sees session' only at (Finishes-none h.status e.own) (same_sights h) (λ m mine x ours. ours)
    (λ m k wrote. subst (λ writes. IsSome (written writes k)) (joined-join_newest m.levels) wrote) (λ m mine. SessionAgrees-release before older is mine) agrees
