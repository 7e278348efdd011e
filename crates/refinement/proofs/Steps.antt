-- Each step keeps the engine's agreement with the model.
use Rattle.std.proofs.Common.{◌≡◌, ◌≢◌, ℕ, List, [], ◌∷◌, ◌++◌, length, Option, Some, None, Bool, true, refl, sym, ap, ◌∙◌, subst, ◌⊎◌, inl, inr}
use Rattle.std.specs.Prelude.{IsSome, Contains}
use Rattle.std.proofs.lemmas.Bool.{cases_eq}
use Rattle.std.proofs.lemmas.Option.{same_Some, none-some}
use Rattle.std.proofs.lemmas.List.Elements.{Contains-push_cases, Contains-append_left, Contains-append_right, Contains-append_cases, Contains-push}
use Rattle.xid_circle.specs.declared.Tid.{Tid}
use Rattle.xid_circle.proofs.Members.{Contains-none}
use Rattle.tuple_header.specs.Version.{Version}
use Rattle.commit_status.specs.declared.status.Status.{Status}
use Rattle.commit_status.specs.declared.status.Status.TheVariants.{InProgress, Committed, Aborted}
use Rattle.snapshot.specs.Snap.{Snap}
use Rattle.history.specs.History.{Write, Transaction, written, reading, IsLate}
use Rattle.history.specs.World.{World, Isolation, by_snapshot, by_statement, OpenSession, joined, own_write, Holds, beginning, start_by, start_now}
use Rattle.history.specs.Moves.{put, free_to_scan, new_session as new_model, begun, with_vacuum, as_failed, aborted, with_write}
use Rattle.history.proofs.HistoryLemmas.{at_same, at_other, joined-add_write}
use Rattle.refinement.specs.Heap.{SeenIsolation, seen_by_snapshot, seen_by_statement, SeenSession, Heap, SightOfStatement, StatementSees, CursorSees}
use Rattle.visibility.specs.Seeing.{HasCommitted, IsRunning, Touches, deleter}
use Rattle.refinement.specs.Visible.{IsFreshSnapshot}
use Rattle.refinement.specs.Changes.{AddsVersion, GivesNext, FinishesIds, with_id}
use Rattle.refinement.specs.Agrees.{Traced, LevelTraces, IsSameIsolation, SessionAgrees, HeapAgrees}
use Rattle.refinement.proofs.ShowsLemmas.{Shows-same, Shows-add_unseen}
use Rattle.refinement.proofs.Statuses.{keeps-give, none_given, some_of, IsCommitted-give, IsActive-give_cases, IsCommitted-finish_old, IsCommitted-abort, IsActive-finish, given-finish, given-give, Finishes-none}
use Rattle.visibility.proofs.Verdicts.{VisibleBy-same}
use Rattle.refinement.proofs.Versions.{Adds-cases}
use Rattle.refinement.proofs.Readers.{IsNew, touches_new, wrote_before}
use Rattle.refinement.proofs.LevelTraces.{Traced-join, Nested, nested_of}
use Rattle.refinement.proofs.Isolations.{SightOfCursor, SameSights, IsUnseen, statement_same, cursor_same, statement_unseen, cursor_unseen, committed-fresh, committed_sight-give, committed_sight-abort, running_uncommitted}
use Rattle.refinement.proofs.Others.{SessionAgrees-add_other, SessionAgrees-give_other, SessionAgrees-abort_other}
use Rattle.refinement.proofs.Itself.{IsCurrent, new_session, SessionAgrees-begin, SessionAgrees-fail, SessionAgrees-insert, SessionAgrees-give}
use Rattle.refinement.proofs.SessionsLemmas.{at_value, Matches, opened-change, idle-change, owned-change, apart-change, alone-change}

-- one session alone changed, and is this now
pub record OnlyIs (before after : ℕ → Option SeenSession) (s : ℕ) (now : Option SeenSession) : Type 0 where
  pub others : (o : ℕ) → o ≢ s → after o ≡ before o
  pub itself : after s ≡ now

pub cases_Contains : (xs : List ℕ) (x : ℕ) → Contains xs x ⊎ (¬ Contains xs x)
cases_Contains [] x = inr (Contains-none x)
cases_Contains (y ∷ ys) x = elim (cases_eq y x) [
  | inl same ↦ inl (Contains-append_left (y ∷ []) ys x (subst (λ z. Contains (y ∷ []) z) same (Contains-push [] y)))
  | inr ne ↦ elim (cases_Contains ys x) [
    | inl there ↦ inl (Contains-append_right (y ∷ []) ys x there)
    | inr absent ↦ inr (λ among. elim (Contains-append_cases (y ∷ []) ys x among) [
      | inl here ↦ elim (Contains-push_cases [] y x here) [ inl none ↦ Contains-none x none | inr same ↦ ne same ]
      | inr there ↦ absent there
    ])
  ]
]

-- what a session has written is what its ids made and deleted
pub levels_traced : (store : Tid → Option Version) (own : List ℕ) (saved : List (List ℕ)) (levels : List (List Write)) → Nested own saved → LevelTraces store own saved levels → Traced store (λ x. Contains own x) (joined levels)
levels_traced store own [] [] nested h = absurd h
levels_traced store own [] (ws ∷ []) nested h = h
levels_traced store own [] (ws ∷ (vs ∷ levels)) nested h = absurd h
levels_traced store own (before ∷ saved) [] nested h = absurd h
levels_traced store own (before ∷ saved) (ws ∷ levels) nested h =
    Traced-join ws (joined levels) (λ x mine. elim (cases_Contains before x) [ inl old ↦ inr old | inr new ↦ inl (mine, new) ]) (λ x new. new.0) (λ x old. nested.0 x old)
    h.0 (levels_traced store before saved levels nested.1 h.1)

pub own_traced : {status : ℕ → Option Status} {store : Tid → Option Version} {history : List Transaction} {sees cursor_sees : ℕ → Type 0} {start : ℕ} {e : SeenSession} {m : OpenSession}
    → SessionAgrees status store history sees start cursor_sees e m → Traced store (λ x. Contains e.own x) (joined m.levels)
own_traced {status} {store} {history} {sees} {cursor_sees} {start} {e} {m} h =
    levels_traced store e.own e.saved m.levels (nested_of status store history sees start e.own e.saved m.levels h.levels) h.level_traces

-- whoever waits for whom
pub Agrees-waits : (h : Heap) (w : World) (waits : ℕ → Option ℕ) → HeapAgrees h w → HeapAgrees h (record w { waits_for = waits })
Agrees-waits h w waits agrees = record {
  opened = agrees.opened;
  idle = agrees.idle;
  current = agrees.current;
  made = agrees.made;
  given = agrees.given;
  owned = agrees.owned;
  apart = agrees.apart;
  alone = agrees.alone;
}

-- whatever indexes there are, and for whomever they are too new
pub Agrees-indexes : (h : Heap) (w : World) (had : ℕ → Bool) (too_new : ℕ → ℕ → Bool) → HeapAgrees h w → HeapAgrees h (record w { has_index = had; too_new = too_new })
Agrees-indexes h w had too_new agrees = record {
  opened = agrees.opened;
  idle = agrees.idle;
  current = agrees.current;
  made = agrees.made;
  given = agrees.given;
  owned = agrees.owned;
  apart = agrees.apart;
  alone = agrees.alone;
}

-- and whether a vacuum runs or not
pub Agrees-vacuum : (h : Heap) (w : World) (runs : Bool) → HeapAgrees h w → HeapAgrees h (with_vacuum runs w)
Agrees-vacuum h w runs agrees = record {
  opened = agrees.opened;
  idle = agrees.idle;
  current = agrees.current;
  made = agrees.made;
  given = agrees.given;
  owned = agrees.owned;
  apart = agrees.apart;
  alone = agrees.alone;
}

-- a session begins, by a snapshot that is taken now or by statement
Agrees-opens : (h : Heap) (w : World) (s : ℕ) (isolation : SeenIsolation) (model : Isolation) (session' : ℕ → Option SeenSession)
    → OnlyIs h.session session' s (Some (new_session isolation)) → h.session s ≡ None → IsSameIsolation isolation model → start_by model w.history ≡ length w.history → IsFreshSnapshot h.status (StatementSees h isolation)
    → HeapAgrees h w → HeapAgrees (record h { session = session' }) (put w s (Some (new_model model)))
Agrees-opens h w s isolation model session' only idle same start fresh agrees = record {
  opened = opened-change h h' w w' s agrees only.others models (λ o e m ne at there old. old)
      (λ e. at_value (λ e. Matches h' w' s e) (session' s) (new_session isolation) e only.itself (
        new_model model,
        at_same s (Some (new_model model)) (w.session s),
        subst (λ start. SessionAgrees h.status h.version w.history (StatementSees h isolation) start (CursorSees h isolation) (new_session isolation) (new_model model)) (sym start)
            (SessionAgrees-begin isolation model same fresh agrees.current agrees.made),
      ));
  idle = idle-change h h' w w' s agrees only.others models (λ at. absurd (none-some (new_session isolation) (sym at ∙ only.itself)));
  current = agrees.current;
  made = agrees.made;
  given = agrees.given;
  owned = owned-change h h' w w' s agrees only.others models (λ x active. inl (active, λ e at. absurd (none-some e (sym idle ∙ at))));
  apart = apart-change h h' w w' s agrees only.others models (λ o x e f ne at bt own own'. let is : e ≡ new_session isolation = same_Some e (new_session isolation) (sym at ∙ only.itself) in Contains-none x (subst (λ (e : SeenSession). Contains e.own x) is own));
  alone = alone-change h h' w w' s agrees only.others models (λ o k ne p q. let is : p.0 ≡ new_model model = same_Some p.0 (new_model model) (sym p.1 ∙ at_same s (Some (new_model model)) (w.session s)) in
      (let wrote : IsSome (own_write (new_model model) k) = subst (λ m. IsSome (own_write m k)) is p.2 in cc));
}
  where
    h' : Heap
    h' = record h { session = session' }

    w' : World
    w' = put w s (Some (new_model model))

    models : (o : ℕ) → o ≢ s → w'.session o ≡ w.session o
    models o ne = at_other o s (Some (new_model model)) (w.session o) ne

pub Agrees-begin : (h : Heap) (w : World) (s : ℕ) (snapshot : Snap) (session' : ℕ → Option SeenSession)
    → OnlyIs h.session session' s (Some (new_session (seen_by_snapshot snapshot))) → h.session s ≡ None → IsFreshSnapshot h.status (h.sees snapshot)
    → HeapAgrees h w → HeapAgrees (record h { session = session' }) (begun (by_snapshot (length w.history)) w s)
Agrees-begin h w s snapshot session' only idle fresh agrees = Agrees-indexes (record h { session = session' }) (put w s (Some (new_model (by_snapshot (length w.history))))) w.has_index (free_to_scan w s).too_new
    (Agrees-opens h w s (seen_by_snapshot snapshot) (by_snapshot (length w.history)) session' only idle tt refl fresh agrees)

pub Agrees-begin_by_statement : (h : Heap) (w : World) (s : ℕ) (session' : ℕ → Option SeenSession)
    → OnlyIs h.session session' s (Some (new_session (seen_by_statement None))) → h.session s ≡ None
    → HeapAgrees h w → HeapAgrees (record h { session = session' }) (begun by_statement w s)
Agrees-begin_by_statement h w s session' only idle agrees = Agrees-indexes (record h { session = session' }) (put w s (Some (new_model by_statement))) w.has_index (free_to_scan w s).too_new
    (Agrees-opens h w s (seen_by_statement None) by_statement session' only idle tt refl (committed-fresh h.status) agrees)

-- one session alone changes: some of its ids may be rolled back, and it keeps only keys that it had
pub Agrees-put : (h : Heap) (w : World) (s : ℕ) (e e' : SeenSession) (m m' : OpenSession) (status' : ℕ → Option Status) (sees' : Snap → ℕ → Type 0) (session' : ℕ → Option SeenSession)
    → OnlyIs h.session session' s (Some e') → h.session s ≡ Some e → w.session s ≡ Some m
    → FinishesIds h.status status' (λ x. Contains e.own x × (¬ Contains e'.own x)) Aborted → SameSights h sees'
    → ((x : ℕ) → Contains e'.own x → Contains e.own x) → ((k : ℕ) → IsSome (own_write m' k) → IsSome (own_write m k))
    → SessionAgrees status' h.version w.history (SightOfStatement status' sees' e'.isolation) (start_now w.history m') (SightOfCursor status' sees' e'.isolation) e' m'
    → HeapAgrees h w → HeapAgrees (record h { status = status'; sees = sees'; session = session' }) (put w s (Some m'))
Agrees-put h w s e e' m m' status' sees' session' only at there finishes same fewer kept mine agrees = record {
  opened = opened-change h h' w w' s agrees only.others models
      (λ o f n ne bt there' old. SessionAgrees-abort_other (λ x. Contains e.own x × (¬ Contains e'.own x)) finishes (statement_same h status' sees' o f bt same (committed_sight-abort (λ x. Contains e.own x × (¬ Contains e'.own x)) finishes))
      (λ some. cursor_same h status' sees' o f bt same (old.kept some)) (λ x p theirs. ne (agrees.apart o s f e x bt at theirs p.0)) old)
      (λ f. at_value (λ f. Matches h' w' s f) (session' s) e' f only.itself (m', at_same s (Some m') (w.session s), mine));
  idle = idle-change h h' w w' s agrees only.others models (λ at'. absurd (none-some e' (sym at' ∙ only.itself)));
  current = Shows-same (λ p v at' seen. VisibleBy-same (λ y touch. to y) (λ y touch. back y) seen) (λ p v at' seen. VisibleBy-same (λ y touch. back y) (λ y touch. to y) seen) (λ k. refl) agrees.current;
  made = λ p y v at' is done z inserter. to z (agrees.made p y v at' is (back y done) z inserter);
  given = λ p y v at' touch. given-finish finishes y (agrees.given p y v at' touch);
  owned = owned-change h h' w w' s agrees only.others models (λ y after. let left = IsActive-finish (λ e. cc) finishes y after in elim (cases_Contains e.own y) [
    | inl ours ↦ elim (cases_Contains e'.own y) [ inl still ↦ inr (e', only.itself, still) | inr gone ↦ absurd (left.1 (ours, gone)) ]
    | inr other ↦ inl (left.0, λ f bt own. other (let is : f ≡ e = same_Some f e (sym bt ∙ at) in subst (λ (e : SeenSession). Contains e.own y) is own))
  ]);
  apart = apart-change h h' w w' s agrees only.others models (λ o x f g ne bt ct own own'. let is : f ≡ e' = same_Some f e' (sym bt ∙ only.itself) in
      ne (agrees.apart o s g e x ct at own' (fewer x (subst (λ (e : SeenSession). Contains e.own x) is own))));
  alone = alone-change h h' w w' s agrees only.others models (λ o k ne p q. let is : p.0 ≡ m' = same_Some p.0 m' (sym p.1 ∙ at_same s (Some m') (w.session s)) in
      ne (agrees.alone o s k q (m, there, kept k (subst (λ m. IsSome (own_write m k)) is p.2))));
}
  where
    h' : Heap
    h' = record h { status = status'; sees = sees'; session = session' }

    w' : World
    w' = put w s (Some m')

    to : (y : ℕ) → HasCommitted h.status y → HasCommitted status' y
    to y done = IsCommitted-finish_old finishes y done

    back : (y : ℕ) → HasCommitted status' y → HasCommitted h.status y
    back y done = IsCommitted-abort finishes y done

    models : (o : ℕ) → o ≢ s → w'.session o ≡ w.session o
    models o ne = at_other o s (Some m') (w.session o) ne

-- the sight of each snapshot stays
pub same_sights : (h : Heap) → SameSights h h.sees
same_sights h snap kept x status is = (λ sees. sees, λ sees. sees)

-- the session fails
pub Agrees-fail : (h : Heap) (w : World) (s : ℕ) (e : SeenSession) (m : OpenSession) (session' : ℕ → Option SeenSession)
    → OnlyIs h.session session' s (Some (record e { failed = true })) → h.session s ≡ Some e → w.session s ≡ Some m
    → SessionAgrees h.status h.version w.history (StatementSees h e.isolation) (start_now w.history m) (CursorSees h e.isolation) e m
    → HeapAgrees h w → HeapAgrees (record h { session = session' }) (put w s (Some (as_failed m)))
Agrees-fail h w s e m session' only at there mine agrees =
    Agrees-put h w s e (record e { failed = true }) m (as_failed m) h.status h.sees session' only at there (Finishes-none h.status e.own) (same_sights h) (λ x ours. ours) (λ k wrote. wrote) (SessionAgrees-fail mine) agrees

-- to be given an id, of any level, is no step of the model
pub Agrees-give_below : (h : Heap) (w : World) (s : ℕ) (e : SeenSession) (n x : ℕ) (status' : ℕ → Option Status) (sees' : Snap → ℕ → Type 0) (session' : ℕ → Option SeenSession)
    → OnlyIs h.session session' s (Some (with_id n x e)) → h.session s ≡ Some e
    → GivesNext h.status status' x → SameSights h sees' → IsUnseen h sees' x
    → HeapAgrees h w → HeapAgrees (record h { status = status'; sees = sees'; session = session' }) w
Agrees-give_below h w s e n x status' sees' session' only at gives same unseen agrees = record {
  opened = opened-change h h' w w s agrees only.others (λ o ne. refl)
      (λ o f m ne bt there old. SessionAgrees-give_other x gives (statement_same h status' sees' o f bt same (committed_sight-give x gives)) (statement_unseen h status' sees' o f x bt unseen gives.active)
      (λ some. cursor_same h status' sees' o f bt same (old.kept some)) (λ some. cursor_unseen h status' sees' o f x bt unseen (old.kept some)) old)
      (λ f. let old = agrees.opened s e at in at_value (λ f. Matches h' w s f) (session' s) new f only.itself (
        old.0,
        old.1,
        SessionAgrees-give n x gives (statement_same h status' sees' s e at same (committed_sight-give x gives)) (statement_unseen h status' sees' s e x at unseen gives.active)
            (λ some. cursor_same h status' sees' s e at same (old.2.kept some)) (λ some. cursor_unseen h status' sees' s e x at unseen (old.2.kept some)) agrees.given old.2,
      ));
  idle = idle-change h h' w w s agrees only.others (λ o ne. refl) (λ at'. absurd (none-some new (sym at' ∙ only.itself)));
  current = Shows-same (λ p v bt seen. VisibleBy-same (λ y touch. to y) (λ y touch. back y) seen) (λ p v bt seen. VisibleBy-same (λ y touch. back y) (λ y touch. to y) seen) (λ k. refl) agrees.current;
  made = λ p y v bt is done z inserter. to z (agrees.made p y v bt is (back y done) z inserter);
  given = λ p y v bt touch. given-give gives y (agrees.given p y v bt touch);
  owned = owned-change h h' w w s agrees only.others (λ o ne. refl) (λ y active. elim (IsActive-give_cases gives y active) [
    | inl old ↦ elim (cases_Contains e.own y) [
      | inl mine ↦ inr (new, only.itself, Contains-append_left e.own (x ∷ []) y mine)
      | inr other ↦ inl (old, λ f bt own. other (let is : f ≡ e = same_Some f e (sym bt ∙ at) in subst (λ (e : SeenSession). Contains e.own y) is own))
    ]
    | inr now ↦ inr (new, only.itself, subst (λ z. Contains (e.own ++ x ∷ []) z) (sym now) (Contains-push e.own x))
  ]);
  apart = apart-change h h' w w s agrees only.others (λ o ne. refl) (λ o y f g ne bt ct own own'.
      let is : f ≡ new = same_Some f new (sym bt ∙ only.itself) in
      elim (Contains-push_cases e.own x y (subst (λ (e : SeenSession). Contains e.own y) is own)) [
        | inl old ↦ ne (agrees.apart o s g e y ct at own' old)
        | inr now ↦ none_given (h.status x) gives.fresh (some_of InProgress (h.status x) (subst (λ z. IsRunning h.status z) (sym now) ((agrees.opened o g ct).2.own_active y own')))
      ]);
  alone = agrees.alone;
}
  where
    new : SeenSession
    new = with_id n x e

    h' : Heap
    h' = record h { status = status'; sees = sees'; session = session' }

    to : (y : ℕ) → HasCommitted h.status y → HasCommitted status' y
    to y done = keeps-give gives y Committed done

    back : (y : ℕ) → HasCommitted status' y → HasCommitted h.status y
    back y done = IsCommitted-give gives y done

-- a session that has an id writes a row
pub Agrees-insert : (h : Heap) (w : World) (s : ℕ) (e : SeenSession) (m : OpenSession) (x : ℕ) (place : Tid) (new : Version) (store' : Tid → Option Version)
    → AddsVersion h.version store' place new → IsNew x new → h.session s ≡ Some e → IsCurrent e x → w.session s ≡ Some m → m.cursor ≡ None
    → reading w.history (start_now w.history m) (joined m.levels) new.row.key ≡ None → ¬ IsLate w.history (start_now w.history m) new.row.key → ((o : ℕ) → o ≢ s → ¬ Holds w o new.row.key)
    → SessionAgrees h.status h.version w.history (StatementSees h e.isolation) (start_now w.history m) (CursorSees h e.isolation) e m
    → HeapAgrees h w → HeapAgrees (record h { version = store' }) (put w s (Some (with_write w.history new.row.key (Some new.row) m)))
Agrees-insert h w s e m x place new store' adds is_new at current there bare none in_time unheld mine agrees = record {
  opened = opened-change h h' w w' s agrees (λ o ne. refl) models
      (λ o f n ne bt there' old. SessionAgrees-add_other x place new adds is_new active (λ foreign. ne (agrees.apart o s f e x bt at foreign current.mine)) old)
      (λ e' at'. let is : e ≡ e' = same_Some e e' (sym at ∙ at') in
      subst (λ e. Matches h' w' s e) is
      (with_write w.history new.row.key (Some new.row) m, at_same s (Some (with_write w.history new.row.key (Some new.row) m)) (w.session s), SessionAgrees-insert x place new adds is_new current bare none in_time mine));
  idle = idle-change h h' w w' s agrees (λ o ne. refl) models (λ at'. absurd (none-some e (sym at' ∙ at)));
  current = Shows-add_unseen adds (λ p v bt seen. seen) (λ p v bt seen. seen) (λ seen. running_uncommitted h.status x active (seen.made x is_new.made)) agrees.current;
  made = λ p y u at' is done. elim (Adds-cases adds p u at') [
    | inl old ↦ agrees.made p y u old is done
    | inr now ↦ absurd (none-some y (sym is_new.kept ∙ (ap (λ (u : Version). deleter u.header) (sym now.1) ∙ is)))
  ];
  given = λ p y v at' touch. elim (Adds-cases adds p v at') [
    | inl old ↦ agrees.given p y v old touch
    | inr now ↦ some_of InProgress (h.status y) (subst (λ z. IsRunning h.status z) (sym (touches_new y is_new (subst (λ (u : Version). Touches y u.header) now.1 touch))) active)
  ];
  owned = agrees.owned;
  apart = agrees.apart;
  alone = alone-change h h' w w' s agrees (λ o ne. refl) models (λ o k ne p q. elim (cases_eq k new.row.key) [
    | inl same ↦ unheld o ne (subst (λ k. Holds w o k) same q)
    | inr ne' ↦ (let is : p.0 ≡ with_write w.history new.row.key (Some new.row) m = same_Some p.0 (with_write w.history new.row.key (Some new.row) m) (sym p.1 ∙ at_same s (Some (with_write w.history new.row.key (Some new.row) m)) (w.session s)) in
        ne (agrees.alone o s k q (
          m,
          there,
          wrote_before (joined m.levels) write k ne'
              (subst (λ ws. IsSome (written ws k)) (joined-add_write write m.levels) (subst (λ m. IsSome (own_write m k)) is p.2)),
        )))
  ]);
}
  where
    write : Write
    write = record { start = start_now w.history m; key = new.row.key; row = Some new.row }

    h' : Heap
    h' = record h { version = store' }

    w' : World
    w' = put w s (Some (with_write w.history new.row.key (Some new.row) m))

    active : IsRunning h.status x
    active = mine.own_active x current.mine

    models : (o : ℕ) → o ≢ s → w'.session o ≡ w.session o
    models o ne = at_other o s (Some (with_write w.history new.row.key (Some new.row) m)) (w.session o) ne

-- a session is rolled back
pub Agrees-abort : (h : Heap) (w : World) (s : ℕ) (e : SeenSession) (status' : ℕ → Option Status) (sees' : Snap → ℕ → Type 0) (session' : ℕ → Option SeenSession)
    → OnlyIs h.session session' s None → h.session s ≡ Some e → FinishesIds h.status status' (λ x. Contains e.own x) Aborted → SameSights h sees'
    → HeapAgrees h w → HeapAgrees (record h { status = status'; sees = sees'; session = session' }) (aborted w s)
Agrees-abort h w s e status' sees' session' only at finishes same agrees = record {
  opened = opened-change h h' w w' s agrees only.others models
      (λ o f m ne bt there old. SessionAgrees-abort_other (λ x. Contains e.own x) finishes (statement_same h status' sees' o f bt same (committed_sight-abort (λ x. Contains e.own x) finishes))
      (λ some. cursor_same h status' sees' o f bt same (old.kept some)) (λ x mine theirs. ne (agrees.apart o s f e x bt at theirs mine)) old)
      (λ e' at'. absurd (none-some e' (sym only.itself ∙ at')));
  idle = idle-change h h' w w' s agrees only.others models (λ at'. at_same s None (w.session s));
  current = Shows-same (λ p v at' seen. VisibleBy-same (λ y touch. to y) (λ y touch. back y) seen) (λ p v at' seen. VisibleBy-same (λ y touch. back y) (λ y touch. to y) seen) (λ k. refl) agrees.current;
  made = λ p y v at' is done z inserter. to z (agrees.made p y v at' is (back y done) z inserter);
  given = λ p y v at' touch. given-finish finishes y (agrees.given p y v at' touch);
  owned = owned-change h h' w w' s agrees only.others models (λ y after. let left = IsActive-finish (λ e. cc) finishes y after in
      inl (left.0, λ e' at' own'. let is : e' ≡ e = same_Some e' e (sym at' ∙ at) in left.1 (subst (λ (e : SeenSession). Contains e.own y) is own')));
  apart = apart-change h h' w w' s agrees only.others models (λ o y e' f ne at'. absurd (none-some e' (sym only.itself ∙ at')));
  alone = alone-change h h' w w' s agrees only.others models (λ o k ne p q. absurd (none-some p.0 (sym (at_same s None (w.session s)) ∙ p.1)));
}
  where
    h' : Heap
    h' = record h { status = status'; sees = sees'; session = session' }

    w' : World
    w' = aborted w s

    to : (y : ℕ) → HasCommitted h.status y → HasCommitted status' y
    to y done = IsCommitted-finish_old finishes y done

    back : (y : ℕ) → HasCommitted status' y → HasCommitted h.status y
    back y done = IsCommitted-abort finishes y done

    models : (o : ℕ) → o ≢ s → w'.session o ≡ w.session o
    models o ne = at_other o s None (w.session o) ne

-- nothing is there, and no session is open
pub Agrees-beginning : (h : Heap) (columns : List Bool) → ((p : Tid) → h.version p ≡ None) → ((x : ℕ) → h.status x ≡ None) → ((s : ℕ) → h.session s ≡ None) → HeapAgrees h (beginning columns)
Agrees-beginning h columns bare unused idle = record {
  opened = λ s e at. absurd (none-some e (sym (idle s) ∙ at));
  idle = λ s at. refl;
  current = record {
    sound = λ p v at seen. absurd (none-some v (sym (bare p) ∙ at));
    there = λ k r is. absurd (none-some r is);
    one = λ p q v u at bt seen seen' key. absurd (none-some v (sym (bare p) ∙ at));
  };
  made = λ p y v at is done x inserter. absurd (none-some v (sym (bare p) ∙ at));
  given = λ p x v at touch. absurd (none-some v (sym (bare p) ∙ at));
  owned = λ x active. absurd (none-some InProgress (sym (unused x) ∙ active));
  apart = λ s o e f x at bt own own'. absurd (none-some e (sym (idle s) ∙ at));
  alone = λ s o k p q. absurd (none-some p.0 p.1);
}
