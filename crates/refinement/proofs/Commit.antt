-- A session commits: all its ids at once.
use Rattle.std.proofs.Common.{◌≡◌, ◌≢◌, ℕ, List, [], ◌∷◌, ◌++◌, length, Option, Some, None, false, refl, sym, ap, ◌∙◌, subst, ◌⊎◌, inl, inr}
use Rattle.std.specs.Prelude.{IsSome, Contains}
use Rattle.std.proofs.lemmas.Bool.{both_ways}
use Rattle.std.specs.Option.{is_some, unwrap_or}
use Rattle.std.proofs.lemmas.Option.{same_Some, none-some}
use Rattle.xid_circle.specs.declared.Tid.{Tid}
use Rattle.tuple_header.specs.Version.{Version}
use Rattle.commit_status.specs.declared.status.Status.{Status}
use Rattle.commit_status.specs.declared.status.Status.TheVariants.{Committed}
use Rattle.snapshot.specs.Snap.{Snap}
use Rattle.history.specs.History.{Transaction, committed, written}
use Rattle.history.specs.World.{World, Isolation, by_snapshot, by_statement, OpenSession, joined, own_write, start_now, start_by}
use Rattle.history.specs.Moves.{aborted, committed_by, appended}
use Rattle.history.proofs.HistoryLemmas.{at_same, at_other, committed-push_all}
use Rattle.refinement.specs.Heap.{SeenIsolation, seen_by_snapshot, seen_by_statement, SeenSession, Heap, kept_snapshot, SightOfStatement, StatementSees, CursorSees}
use Rattle.visibility.specs.Seeing.{HasCommitted, Reads, by_itself, by_others, VisibleBy, Touches, inserter, deleter}
use Rattle.refinement.specs.Visible.{ReaderSees, At}
use Rattle.refinement.specs.Changes.{FinishesIds, SameSight}
use Rattle.refinement.specs.Agrees.{Shows, ReaderAgrees, Traced, IsSameIsolation, SessionAgrees, HeapAgrees}
use Rattle.refinement.proofs.ShowsLemmas.{Shows-by_key}
use Rattle.refinement.proofs.Statuses.{IsCommitted-finish_old, IsCommitted-commit_cases, IsCommitted-commit, IsActive-finish, given-finish}
use Rattle.visibility.proofs.Verdicts.{VisibleBy-same}
use Rattle.refinement.proofs.Readers.{Levels-top}
use Rattle.refinement.proofs.Traces.{SparesCurrent}
use Rattle.refinement.proofs.Isolations.{SightOfCursor, SameSights, cursor_same, statement_decided}
use Rattle.refinement.proofs.Others.{SessionAgrees-commit_other}
use Rattle.refinement.proofs.ByStatement.{own_or-some, own_or-none, SessionAgrees-commit_by_statement}
use Rattle.refinement.proofs.SessionsLemmas.{opened-change, idle-change, owned-change, apart-change, alone-change}
use Rattle.refinement.proofs.Steps.{OnlyIs, own_traced}
use Rattle.refinement.proofs.Uncontested.{spares_current}

-- to be seen is decided: what cannot be unseen is seen
seen_or_not : (P : Type 0) → P ⊎ (¬ P) → ¬ (¬ P) → P
seen_or_not P decided h = elim decided [ inl seen ↦ seen | inr unseen ↦ absurd (h unseen) ]

-- the world after the commit of the session, whose model is m
abbrev pub with_transaction : World → ℕ → OpenSession → World
with_transaction w s m = record (aborted w s) { history = w.history ++ joined m.levels ∷ [] }

pub committed-is : (w : World) (s : ℕ) (m : OpenSession) → w.session s ≡ Some m → committed_by w s ≡ with_transaction w s m
committed-is w s m there = ap (λ history. world history) (ap (appended w.history) there)
  where
    world : List Transaction → World
    world history = record (aborted w s) { history = history }

-- What a session commits is seen by the other sessions as their isolation has it.
module _ (status status' : ℕ → Option Status) (sees sees' : Snap → ℕ → Type 0) (store : Tid → Option Version) (history : List Transaction) (theirs : List ℕ) (t : Transaction)
    (finishes : FinishesIds status status' (λ x. Contains theirs x) Committed)
    (carries : Traced store (λ x. Contains theirs x) t)
    (spares : SparesCurrent status store theirs t)
    (current : Shows store (λ v. VisibleBy (HasCommitted status') v.header) (committed (history ++ t ∷ []) (length (history ++ t ∷ []))))
    (made : (p : Tid) (y : ℕ) (v : Version) → At store p v → deleter v.header ≡ Some y → HasCommitted status' y → (x : ℕ) → inserter v.header ≡ Some x → HasCommitted status' x) where
  other_commits : {e : SeenSession} {m : OpenSession} (seen : SeenIsolation) (model : Isolation) → IsSameIsolation seen model
      → ((snap : Snap) → kept_snapshot seen ≡ Some snap → SameSight status (sees snap) (sees' snap)) → (IsSome e.cursor → SameSight status (SightOfCursor status sees seen) (SightOfCursor status' sees' seen))
      → ((x : ℕ) → Contains theirs x → ¬ Contains e.own x) → ((k : ℕ) → IsSome (own_write m k) → IsSome (written t k) → ⊥)
      → SessionAgrees status store history (SightOfStatement status sees seen) (start_by model history) (SightOfCursor status sees seen) e m
      → SessionAgrees status' store (history ++ t ∷ []) (SightOfStatement status' sees' seen) (start_by model (history ++ t ∷ [])) (SightOfCursor status' sees' seen) e m
  other_commits (seen_by_snapshot snap) (by_snapshot start) alike same cursor_same foreign alone old =
      SessionAgrees-commit_other theirs t finishes (same snap refl) cursor_same foreign carries spares alone old
  other_commits (seen_by_snapshot snap) by_statement alike same cursor_same foreign alone old = absurd alike
  other_commits (seen_by_statement kept) (by_snapshot start) alike same cursor_same foreign alone old = absurd alike
  other_commits (seen_by_statement kept) by_statement alike same cursor_same foreign alone old =
      SessionAgrees-commit_by_statement status status' store history theirs t finishes carries current made cursor_same foreign alone old

pub Agrees-commit : (h : Heap) (w : World) (s : ℕ) (e : SeenSession) (m : OpenSession) (status' : ℕ → Option Status) (sees' : Snap → ℕ → Type 0) (session' : ℕ → Option SeenSession)
    → OnlyIs h.session session' s None → h.session s ≡ Some e → w.session s ≡ Some m
    → FinishesIds h.status status' (λ x. Contains e.own x) Committed → SameSights h sees' → ((snap : Snap) (x : ℕ) → h.sees snap x ⊎ (¬ h.sees snap x))
    → SessionAgrees h.status h.version w.history (StatementSees h e.isolation) (start_now w.history m) (CursorSees h e.isolation) e m
    → HeapAgrees h w → HeapAgrees (record h { status = status'; sees = sees'; session = session' }) (with_transaction w s m)
Agrees-commit h w s e m status' sees' session' only at there finishes same decided mine agrees = record {
  opened = opened-change h h' w w' s agrees only.others models
      (λ o f n ne bt there' old. other_commits h.status status' h.sees sees' h.version w.history e.own (joined m.levels) finishes carries (spares_current mine) current made f.isolation n.isolation old.isolation
      (λ snap is. same snap (o, f, bt, is)) (λ some. cursor_same h status' sees' o f bt same (old.kept some)) (λ x ours theirs. ne (agrees.apart o s f e x bt at theirs ours))
      (λ k theirs ours. ne (agrees.alone o s k (n, there', theirs) (m, there, ours))) old)
      (λ e' at'. absurd (none-some e' (sym only.itself ∙ at')));
  idle = idle-change h h' w w' s agrees only.others models (λ at'. at_same s None (w.session s));
  current = current;
  made = made;
  given = λ p y v at' touch. given-finish finishes y (agrees.given p y v at' touch);
  owned = owned-change h h' w w' s agrees only.others models (λ y after. let left = IsActive-finish (λ e. cc) finishes y after in
      inl (left.0, λ e' at' own'. let is : e' ≡ e = same_Some e' e (sym at' ∙ at) in left.1 (subst (λ (e : SeenSession). Contains e.own y) is own')));
  apart = apart-change h h' w w' s agrees only.others models (λ o y e' f ne at'. absurd (none-some e' (sym only.itself ∙ at')));
  alone = alone-change h h' w w' s agrees only.others models (λ o k ne p q. absurd (none-some p.0 (sym (at_same s None (w.session s)) ∙ p.1)));
}
  where
    h' : Heap
    h' = record h { status = status'; sees = sees'; session = session' }

    w' : World
    w' = with_transaction w s m

    top : ReaderAgrees h.status h.version w.history (StatementSees h e.isolation) (start_now w.history m) e.own (joined m.levels)
    top = Levels-top e.own e.saved m.levels mine.levels

    carries : Traced h.version (λ x. Contains e.own x) (joined m.levels)
    carries = own_traced mine

    rows-after : (k : ℕ) → committed w'.history (length w'.history) k ≡ unwrap_or (own_write m k) (committed w.history (length w.history) k)
    rows-after k = committed-push_all w.history (joined m.levels) k

    -- the versions of a key that the session wrote: a new session sees those that it saw itself
    seen_by_it : (p : Tid) (y : ℕ) (v : Version) → At h.version p v → IsSome (own_write m v.row.key) → Touches y v.header → HasCommitted h.status y → StatementSees h e.isolation y
    seen_by_it p y v at' ours touch done = seen_or_not (StatementSees h e.isolation y) (statement_decided h e.isolation decided y) (λ unseen. mine.in_time v.row.key ours (mine.traces.missed_late p v at' (y, (touch, done, unseen))))

    to : (y : ℕ) → Reads h.status (StatementSees h e.isolation) e.own y → HasCommitted status' y
    to y (by_itself ours) = IsCommitted-commit finishes y ours
    to y (by_others seen done) = IsCommitted-finish_old finishes y done

    back : (p : Tid) (y : ℕ) (v : Version) → At h.version p v → IsSome (own_write m v.row.key) → Touches y v.header → HasCommitted status' y → Reads h.status (StatementSees h e.isolation) e.own y
    back p y v at' ours touch done = elim (IsCommitted-commit_cases finishes y done) [
      | inl own ↦ by_itself own
      | inr old ↦ by_others (seen_by_it p y v at' ours touch old) old
    ]

    ours_to : (p : Tid) (v : Version) → At h.version p v → IsSome (own_write m v.row.key) → ReaderSees h.status (StatementSees h e.isolation) e.own v → VisibleBy (HasCommitted status') v.header
    ours_to p v at' ours seen = VisibleBy-same (λ y touch r. to y r) (λ y touch r. back p y v at' ours touch r) seen

    ours_back : (p : Tid) (v : Version) → At h.version p v → IsSome (own_write m v.row.key) → VisibleBy (HasCommitted status') v.header → ReaderSees h.status (StatementSees h e.isolation) e.own v
    ours_back p v at' ours seen = VisibleBy-same (λ y touch r. back p y v at' ours touch r) (λ y touch r. to y r) seen

    -- of any other key: those that it saw before
    untouched : (p : Tid) (y : ℕ) (v : Version) → At h.version p v → is_some (own_write m v.row.key) ≡ false → Touches y v.header → HasCommitted status' y → HasCommitted h.status y
    untouched p y v at' theirs touch done = elim (IsCommitted-commit_cases finishes y done) [
      | inl own ↦ absurd (both_ways (is_some (own_write m v.row.key)) theirs (carries.there_written p v at' (y, touch, own)))
      | inr old ↦ old
    ]

    theirs_to : (p : Tid) (v : Version) → At h.version p v → is_some (own_write m v.row.key) ≡ false → VisibleBy (HasCommitted h.status) v.header → VisibleBy (HasCommitted status') v.header
    theirs_to p v at' theirs seen = VisibleBy-same (λ y touch r. IsCommitted-finish_old finishes y r) (λ y touch r. untouched p y v at' theirs touch r) seen

    theirs_back : (p : Tid) (v : Version) → At h.version p v → is_some (own_write m v.row.key) ≡ false → VisibleBy (HasCommitted status') v.header → VisibleBy (HasCommitted h.status) v.header
    theirs_back p v at' theirs seen = VisibleBy-same (λ y touch r. untouched p y v at' theirs touch r) (λ y touch r. IsCommitted-finish_old finishes y r) seen

    models : (o : ℕ) → o ≢ s → w'.session o ≡ w.session o
    models o ne = at_other o s None (w.session o) ne

    current : Shows h.version (λ v. VisibleBy (HasCommitted status') v.header) (committed w'.history (length w'.history))
    current = Shows-by_key (λ k. is_some (own_write m k))
        (λ p v at' ours. (ours_to p v at' ours, ours_back p v at' ours)) (λ k ours. rows-after k ∙ own_or-some (own_write m k) (committed w.history (length w.history) k) (committed w.history (start_now w.history m) k) ours)
        (λ p v at' theirs. (theirs_to p v at' theirs, theirs_back p v at' theirs)) (λ k theirs. rows-after k ∙ own_or-none (own_write m k) (committed w.history (length w.history) k) (both_ways (is_some (own_write m k)) theirs))
        top.rows agrees.current

    made : (p : Tid) (y : ℕ) (v : Version) → At h.version p v → deleter v.header ≡ Some y → HasCommitted status' y → (x : ℕ) → inserter v.header ≡ Some x → HasCommitted status' x
    made p y v at' is done z makes = elim (IsCommitted-commit_cases finishes y done) [
      | inl ours ↦ to z (top.whole p y v at' is (by_itself ours) z makes)
      | inr old ↦ IsCommitted-finish_old finishes z (agrees.made p y v at' is old z makes)
    ]
