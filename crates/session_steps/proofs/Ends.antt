-- What the end of a session keeps, and its return to a savepoint: ids that it has are finished.
use Rattle.std.proofs.Common.{◌≡◌, ◌≢◌, ℕ, ◌<◌, ◌≤◌, List, [], ◌∷◌, ◌++◌, length, set, Option, Some, None, refl, sym, ap, ◌∙◌, subst, ◌⊎◌, inl, inr}
use Rattle.std.proofs.Math.ListN.{length-set}
use Rattle.std.specs.Prelude.{Contains, IsSome}
use Rattle.std.proofs.lemmas.Bool.{cases_Bool, cases_eq}
use Rattle.std.proofs.lemmas.Option.{none-some, same_Some}
use Rattle.std.proofs.lemmas.List.Elements.{Contains-append_left, Contains-append_right, Contains-append_cases}
use Rattle.xid_circle.specs.declared.Tid.{Tid}
use Rattle.tuple_header.specs.Version.{Version}
use Rattle.tuple_header.specs.Marks.{is_frozen}
use Rattle.visibility.specs.Visible.{IsFrozen}
use Rattle.commit_status.specs.declared.status.Status.{Status}
use Rattle.commit_status.specs.declared.status.Status.TheVariants.{InProgress, Committed, Aborted}
use Rattle.commit_status.specs.Window.{Window, IsWindow, IsInProgress, turns, top_of}
use Rattle.commit_status.specs.Window as window
use Rattle.commit_status.specs.Changes.{Finishes}
use Rattle.commit_status.proofs.Finishing.{finishes-top, finishes-upto}
use Rattle.forgetting.proofs.WellTopped.{finishes-well_topped}
use Rattle.tuple_writes.specs.Laws.{DeletedWhatWasMade, AloneDeletedTheirs}
use Rattle.visibility.proofs.Makers.{is-inserter, is-deleter, active-to, committed-to, state-some}
use Rattle.index_lookup.specs.Pages.{slots_on}
use Rattle.heap_write.specs.Heap.{slots_of}
use Rattle.table_integrity.specs.Table.{StaysSoundTable}
use Rattle.table_integrity.specs.Laws as laws
use Rattle.table_integrity.proofs.Keeping.{committed-stays, aborted-stays}
use Rattle.history.specs.History.{Write, Transaction}
use Rattle.history.specs.World.{World, joined, start_now}
use Rattle.refinement.specs.Heap as relation
use Rattle.visibility.specs.Seeing.{HasCommitted, IsRunning, Reads, by_itself, by_others, deleted_by, inserter, deleter}
use Rattle.refinement.specs.Visible.{At}
use Rattle.refinement.specs.Agrees as theory
use Rattle.refinement.proofs.Readers.{Levels-top}
use Rattle.snapshot.specs.Laws.{IsBounded, IsBetween, IsInWindow}
use Rattle.snapshot.specs.Snap.{Snap}
use Rattle.snapshot.specs.Own.{newest}
use Rattle.snapshot.proofs.Levels.{distinct-after}
use Rattle.snapshot.proofs.Takes.{first-in}
use Rattle.sessions.specs.declared.session.Session.{Session}
use Rattle.visibility.specs.Visible.{state_of}
use Rattle.session_steps.specs.State.{State, session_at, seen, reader_of}
use Rattle.session_steps.specs.Agrees.{Agrees, Sound, SessionKeeps, SessionScans, KeepsAllTargets}
use Rattle.sound_entries.specs.Since.{IsExactSince}
use Rattle.sound_entries.proofs.Since.{finishing-since}
use Rattle.session_steps.specs.Changes.{Closes, RollsBack}
use Rattle.calls.specs.declared.settings.Settings.{Settings}
use Rattle.session_steps.proofs.InUse.{scans-still, scans-as}
use Rattle.table_indexes.specs.Indexes.{since_at}
use Rattle.session_steps.proofs.OwnIdsLemmas.{open-within, open-set_cases}
use Rattle.session_steps.proofs.Owns.{reader-is, reader-at}
use Rattle.session_steps.proofs.Statements.{statement_sight}
use Rattle.session_steps.proofs.Placing.{normal-active}
use Rattle.session_steps.proofs.Returning.{returned, keeps-returned}

bounded-finish : (w v : Window) (ids : List ℕ) (end : Status) (s : Snap) → Finishes w v ids end → IsBounded w s → IsBounded v s
bounded-finish w v ids end s f h = record {
  xmin = finishes-upto w v ids end s.xmin f h.xmin;
  xmax = finishes-upto w v ids end s.xmax f h.xmax;
  ordered = subst (λ first. turns first s.xmin ≤ turns first s.xmax) (sym f.first) h.ordered;
}

between-finish : (w v : Window) (ids : List ℕ) (end : Status) (s : Snap) (x : ℕ) → Finishes w v ids end → IsBetween w s x → IsBetween v s x
between-finish w v ids end s x f h = record {
  upto = finishes-upto w v ids end x f h.upto;
  from_xmin = subst (λ first. turns first s.xmin ≤ turns first x) (sym f.first) h.from_xmin;
  before_xmax = subst (λ first. turns first x < turns first s.xmax) (sym f.first) h.before_xmax;
}

in-window-finish : (w v : Window) (ids : List ℕ) (end : Status) (s : Snap) → Finishes w v ids end → IsInWindow w s → IsInWindow v s
in-window-finish w v ids end s f h = record {
  bounds = bounded-finish w v ids end s f h.bounds;
  listed = λ x among. between-finish w v ids end s x f (h.listed x among);
}

pub keeps-finish : (w v : Window) (ids : List ℕ) (end : Status) (e : Session) → Finishes w v ids end → SessionKeeps w e → SessionKeeps v e
keeps-finish w v ids end e f h = record {
  snapshot = λ snap is. in-window-finish w v ids end snap f (h.snapshot snap is);
  for_cursor = h.for_cursor;
  topmost = λ x mine. h.topmost x mine ∙ ap Some (sym (finishes-top w v ids end x f));
  prefixes = h.prefixes;
  distinct = h.distinct;
}

-- Who deletes what: whoever reads the deletion reads the making.

status-cases : (o : Option Status) → IsSome o → (o ≡ Some InProgress) ⊎ ((o ≡ Some Committed) ⊎ (o ≡ Some Aborted))
status-cases None some = cc
status-cases (Some InProgress) some = inl refl
status-cases (Some Committed) some = inr (inl refl)
status-cases (Some Aborted) some = inr (inr refl)

frozen-cases : (t : Version) → IsFrozen t.header ⊎ (¬ IsFrozen t.header)
frozen-cases t = elim (cases_Bool (is_frozen t.header)) [ inl frozen ↦ inl frozen | inr thawed ↦ inr (λ frozen. cc) ]

-- the session as it was at its newest savepoint
newest-reader : (status : ℕ → Option Status) (store : Tid → Option Version) (history : List Transaction) (sees : ℕ → Type 0) (start : ℕ) (own before : List ℕ) (saved all : List (List ℕ)) (levels : List (List Write))
    → all ≡ before ∷ saved → theory.LevelsAgree status store history sees start own all levels → (writes : List Write) × theory.ReaderAgrees status store history sees start before writes
newest-reader status store history sees start own before saved all levels is h = of levels (subst (λ all. theory.LevelsAgree status store history sees start own all levels) is h)
  where
    of : (levels : List (List Write)) → theory.LevelsAgree status store history sees start own (before ∷ saved) levels → (writes : List Write) × theory.ReaderAgrees status store history sees start before writes
    of [] h = absurd h
    of (ws ∷ levels) h = (joined levels, Levels-top before saved levels h.2)

module _ (st : State) (w : World) (agrees : Agrees st w) where
  -- what reads the version at a place, read by a session with these ids of its own
  read-by : (status : ℕ → Option Status) (sees : ℕ → Type 0) (own : List ℕ) (x : ℕ) → Reads status sees own x → Contains own x ⊎ HasCommitted status x
  read-by status sees own x (by_itself mine) = inl mine
  read-by status sees own x (by_others seen done) = inr done

  -- an id of the session deleted the version: one of its own made it, or one that is committed
  made-with : (s : ℕ) (e : Session) (p : Tid) (t : Version) (x y : ℕ) → session_at st s ≡ Some e → At (seen st).version p t → inserter t.header ≡ Some x → deleter t.header ≡ Some y → Contains e.own.ids y
      → Contains e.own.ids x ⊎ HasCommitted (state_of st.heap.statuses) x
  made-with s e p t x y at there made gone mine =
      let m = agrees.found.opened s (reader_of e) (reader-is st s e at) in
      read-by (state_of st.heap.statuses) (statement_sight st e.isolation) e.own.ids x
      ((Levels-top e.own.ids e.own.saved m.0.levels m.2.levels).whole p y t there gone (by_itself mine) x made)

  -- an id in progress of a session made the version: no deletion of it counts, or one of the session's ids made it
  deleted-with : (s : ℕ) (e : Session) (p : Tid) (t : Version) (x : ℕ) → session_at st s ≡ Some e → At (seen st).version p t → inserter t.header ≡ Some x → Contains e.own.ids x
      → (t.header.xmax.0 ≡ 0) ⊎ (window.IsAborted st.heap.statuses t.header.xmax.0 ⊎ Contains e.own.ids t.header.xmax.0)
  deleted-with s e p t x at there made mine = elim (cases_eq t.header.xmax.0 0) [
    | inl none ↦ inl none
    | inr some ↦ inr (let gone = is-deleter t.header t.header.xmax.0 some refl in by-status gone (status-cases (state_of st.heap.statuses t.header.xmax.0) (agrees.found.given p t.header.xmax.0 t there (deleted_by gone))))
  ]
    where
      y : ℕ
      y = t.header.xmax.0

      going : IsRunning (state_of st.heap.statuses) x
      going = (agrees.found.opened s (reader_of e) (reader-is st s e at)).2.own_active x mine

      unfinished : ¬ HasCommitted (state_of st.heap.statuses) x
      unfinished done = cc going

      -- the session that has the deleter made it too, so it is this one
      same-session : deleter t.header ≡ Some y → IsRunning (state_of st.heap.statuses) y → Contains e.own.ids y
      same-session gone active =
          let by = agrees.found.owned y active in
          let f = reader-at st by.0 by.1 by.2 in
          let theirs : Contains f.0.own.ids y = subst (λ (r : relation.SeenSession). Contains r.own y) (sym f.2) by.3 in
          elim (made-with by.0 f.0 p t x y f.1 there made gone theirs) [
            | inl both ↦ (let one : s ≡ by.0 = agrees.found.apart s by.0 (reader_of e) (reader_of f.0) x (reader-is st s e at) (reader-is st by.0 f.0 f.1) mine both in
                subst (λ (g : Session). Contains g.own.ids y) (same_Some f.0 e (sym f.1 ∙ ap (session_at st) (sym one) ∙ at)) theirs)
            | inr done ↦ absurd (unfinished done)
          ]

      by-status : deleter t.header ≡ Some y → (state_of st.heap.statuses y ≡ Some InProgress) ⊎ ((state_of st.heap.statuses y ≡ Some Committed) ⊎ (state_of st.heap.statuses y ≡ Some Aborted))
          → window.IsAborted st.heap.statuses y ⊎ Contains e.own.ids y
      by-status gone (inl active) = inr (same-session gone active)
      by-status gone (inr (inl done)) = absurd (unfinished (agrees.found.made p y t there gone done x made))
      by-status gone (inr (inr undone)) = inl (state-some st.heap.statuses y Aborted undone).1

  -- all ids of a session
  deleted-made : (s : ℕ) (e : Session) → session_at st s ≡ Some e → (n : ℕ) → DeletedWhatWasMade st.heap.statuses (slots_on (slots_of st.heap) n) e.own.ids
  deleted-made s e at n m t there mine = elim (frozen-cases t) [
    | inl frozen ↦ inl frozen
    | inr thawed ↦ inr (
        let active = active-to st.heap.statuses t.header.xmax.0 ((agrees.found.opened s (reader_of e) (reader-is st s e at)).2.own_active t.header.xmax.0 mine) in
        elim (made-with s e (record { page = n; slot = m }) t t.header.xmin.0 t.header.xmax.0 at there (is-inserter t.header t.header.xmin.0 thawed refl)
        (is-deleter t.header t.header.xmax.0 (normal-active st.heap.statuses t.header.xmax.0 active) refl) mine) [
          | inl own ↦ inr own
          | inr done ↦ inl (committed-to st.heap.statuses t.header.xmin.0 done)
        ])
  ]

  alone-deleted : (s : ℕ) (e : Session) → session_at st s ≡ Some e → (n : ℕ) → AloneDeletedTheirs st.heap.statuses (slots_on (slots_of st.heap) n) e.own.ids
  alone-deleted s e at n m t there thawed mine = deleted-with s e (record { page = n; slot = m }) t t.header.xmin.0 at there (is-inserter t.header t.header.xmin.0 thawed refl) mine

  -- those since its newest savepoint: what these made, no earlier id deletes, since who returns there reads no such making
  since-alone : (s : ℕ) (e : Session) (before since : List ℕ) (saved : List (List ℕ)) → session_at st s ≡ Some e → e.own.saved ≡ before ∷ saved → e.own.ids ≡ before ++ since
      → (n : ℕ) → AloneDeletedTheirs st.heap.statuses (slots_on (slots_of st.heap) n) since
  since-alone s e before since saved at is ids n m t there thawed mine =
      elim (deleted-with s e p t x at there made (subst (λ xs. Contains xs x) (sym ids) (Contains-append_right before since x mine))) [
        | inl none ↦ inl none
        | inr (inl undone) ↦ inr (inl undone)
        | inr (inr own) ↦ inr (elim (Contains-append_cases before since y (subst (λ xs. Contains xs y) ids own)) [
          | inl early ↦ absurd (too-early early)
          | inr late ↦ inr late
        ])
      ]
    where
      p : Tid
      p = record { page = n; slot = m }

      x : ℕ
      x = t.header.xmin.0

      y : ℕ
      y = t.header.xmax.0

      made : inserter t.header ≡ Some x
      made = is-inserter t.header x thawed refl

      too-early : Contains before y → ⊥
      too-early early =
          let o = agrees.found.opened s (reader_of e) (reader-is st s e at) in
          let active = active-to st.heap.statuses y (o.2.own_active y (subst (λ xs. Contains xs y) (sym ids) (Contains-append_left before since y early))) in
          let gone = is-deleter t.header y (normal-active st.heap.statuses y active) refl in
          elim (read-by (state_of st.heap.statuses) (statement_sight st e.isolation) before x
          ((newest-reader (state_of st.heap.statuses) (seen st).version w.history (statement_sight st e.isolation) (start_now w.history o.0) e.own.ids before saved e.own.saved o.0.levels is o.2.levels).1.whole p y t there gone (by_itself early) x made)) [
            | inl both ↦ distinct-after e.own.ids before since (agrees.sound.sessions s e at).distinct ids x mine both
            | inr done ↦ (let going = o.2.own_active x (subst (λ xs. Contains xs x) (sym ids) (Contains-append_right before since x mine)) in cc)
          ]

-- Some ids of a session are finished, and it closes, or becomes another.

pub record Ended (st st' : State) (s : ℕ) (now : Option Session) (ids : List ℕ) (end : Status) : Type 0 where
  pub settings : st'.settings ≡ st.settings
  pub pages : st'.heap.pages ≡ st.heap.pages
  pub indexes : st'.heap.indexes ≡ st.heap.indexes
  pub max_pages : st'.heap.max_pages ≡ st.heap.max_pages
  pub sessions : st'.sessions ≡ set st.sessions s now
  pub finishes : Finishes st.heap.statuses st'.heap.statuses ids end
  pub window : IsWindow st'.heap.statuses

module _ (st st' : State) (s : ℕ) (e : Session) (now : Option Session) (ids : List ℕ) (end : Status) (ended : end ≢ InProgress) (at : session_at st s ≡ Some e) (change : Ended st st' s now ids end)
    (w : World) (agrees : Agrees st w) where
  still : (o : ℕ) (f : Session) → session_at st' o ≡ Some f → ((o ≡ s) × (now ≡ Some f)) ⊎ ((o ≢ s) × (session_at st o ≡ Some f))
  still o f bt = open-set_cases st.sessions s o now f (open-within st.sessions s e at) (subst (λ xs. session_at (record st { sessions = xs }) o ≡ Some f) change.sessions bt)

  table-finishes : ((x : ℕ) → Contains ids x → Contains e.own.ids x) → laws.FinishesInTable st.heap st'.heap ids end
  table-finishes mine = record {
    active = λ x among. active-to st.heap.statuses x ((agrees.found.opened s (reader_of e) (reader-is st s e at)).2.own_active x (mine x among));
    finishes = change.finishes;
    pages = change.pages;
    indexes = change.indexes;
  }

  Sound-ended : ((f : Session) → now ≡ Some f → SessionKeeps st'.heap.statuses f) → ((f : Session) → now ≡ Some f → SessionScans st.heap.statuses st.heap.indexes f) → (end ≡ Committed → (x : ℕ) → Contains ids x → Contains ids (top_of st.heap.statuses x))
      → StaysSoundTable st.heap st'.heap → Sound st'
  Sound-ended keeps scans with_tops stays = record {
    count = ap length change.sessions ∙ (length-set st.sessions s now ∙ agrees.sound.count);
    max_pages = change.max_pages ∙ agrees.sound.max_pages ∙ ap (λ (g : Settings). g.max_pages) (sym change.settings);
    stop_age = change.finishes.stop_age ∙ agrees.sound.stop_age ∙ ap (λ (g : Settings). g.stop_age) (sym change.settings);
    window = change.window;
    sessions = λ o f bt. elim (still o f bt) [
      | inl same ↦ keeps f same.1
      | inr other ↦ keeps-finish st.heap.statuses st'.heap.statuses ids end f change.finishes (agrees.sound.sessions o f other.1)
    ];
    by_key = (stays.in_use 0).0 agrees.sound.by_key;
    since = λ n. subst (IsExactSince st'.heap.statuses) (sym (stays.since n)) (finishing-since st.heap.statuses st'.heap.statuses ids end (since_at st.heap.indexes n) ended change.finishes (agrees.sound.since n));
    scans = λ o f bt. scans-still st.heap.statuses st'.heap.statuses st.heap.indexes st'.heap.indexes change.finishes.first stays.in_use stays.since f (elim (still o f bt) [
      | inl same ↦ scans f same.1
      | inr other ↦ agrees.sound.scans o f other.1
    ]);
    tops = finishes-well_topped st.heap.statuses st'.heap.statuses ids end ended change.finishes agrees.sound.window with_tops agrees.sound.tops;
    table = stays.sound;
  }

-- nothing changes but the statuses, and the session
ended-by : (st st' : State) (s : ℕ) (now : Option Session) (ids : List ℕ) (end : Status) → st' ≡ record st { heap = record st.heap { statuses = st'.heap.statuses }; sessions = set st.sessions s now }
    → Finishes st.heap.statuses st'.heap.statuses ids end → IsWindow st'.heap.statuses → Ended st st' s now ids end
ended-by st st' s now ids end is finishes window = record {
  settings = ap (λ (x : State). x.settings) is;
  pages = ap (λ (x : State). x.heap.pages) is;
  indexes = ap (λ (x : State). x.heap.indexes) is;
  max_pages = ap (λ (x : State). x.heap.max_pages) is;
  sessions = ap (λ (x : State). x.sessions) is;
  finishes = finishes;
  window = window;
}

-- A session closes.

ended-closed : (st st' : State) (s : ℕ) (e : Session) (end : Status) → session_at st s ≡ Some e → Closes st st' s end → Ended st st' s None e.own.ids end
ended-closed st st' s e end at closes = ended-by st st' s None e.own.ids end closes.is (closes.finishes e at) (closes.window e at)

nobody : {A : Type 0} (f : Session) → None ≡ Some f → A
nobody f is = absurd (none-some f is)

pub commits-sound : (st st' : State) (s : ℕ) (e : Session) (w : World) → session_at st s ≡ Some e → Closes st st' s Committed → Agrees st w → Sound st' × KeepsAllTargets st st'
commits-sound st st' s e w at closes agrees =
    let change = ended-closed st st' s e Committed at closes in
    let stays = committed-stays st.heap st'.heap e.own.ids agrees.sound.table
    (table-finishes st st' s e None e.own.ids Committed (λ e. cc) at change w agrees (λ x mine. mine)) (deleted-made st w agrees s e at) in (
      Sound-ended st st' s e None e.own.ids Committed (λ e. cc) at change w agrees (λ f is. nobody f is) (λ f is. nobody f is)
          (λ done x mine. first-in e.own.ids (top_of st.heap.statuses x) ((agrees.sound.sessions s e at).topmost x mine)) stays,
      stays.led,
    )

pub aborts-sound : (st st' : State) (s : ℕ) (e : Session) (w : World) → session_at st s ≡ Some e → Closes st st' s Aborted → Agrees st w → Sound st' × KeepsAllTargets st st'
aborts-sound st st' s e w at closes agrees =
    let change = ended-closed st st' s e Aborted at closes in
    let stays = aborted-stays st.heap st'.heap e.own.ids agrees.sound.table
    (table-finishes st st' s e None e.own.ids Aborted (λ e. cc) at change w agrees (λ x mine. mine)) (alone-deleted st w agrees s e at) in
    (Sound-ended st st' s e None e.own.ids Aborted (λ e. cc) at change w agrees (λ f is. nobody f is) (λ f is. nobody f is) (λ done x mine. absurd (cc)) stays, stays.led)

-- A session returns to its newest savepoint.

pub rolls-back-sound : (st st' : State) (s : ℕ) (before : List ℕ) (saved : List (List ℕ)) (w : World) (back : RollsBack st st' s) → back.session.own.saved ≡ before ∷ saved → Agrees st w → Sound st' × KeepsAllTargets st st'
rolls-back-sound st st' s before saved w back is agrees =
    let e = back.session in
    let now = returned e back.own in
    let ids : back.own.ids ≡ before = back.ids ∙ ap newest is in
    let were : e.own.ids ≡ before ++ back.since = back.were ∙ ap (λ xs. xs ++ back.since) ids in
    let change = ended-by st st' s (Some now) back.since Aborted back.is back.finishes back.window in
    let mine : (x : ℕ) → Contains back.since x → Contains e.own.ids x = λ x late. subst (λ xs. Contains xs x) (sym were) (Contains-append_right before back.since x late) in
    let stays = aborted-stays st.heap st'.heap back.since agrees.sound.table
    (table-finishes st st' s e (Some now) back.since Aborted (λ e. cc) back.at change w agrees mine) (since-alone st w agrees s e before back.since saved back.at is were) in
    (Sound-ended st st' s e (Some now) back.since Aborted (λ e. cc) back.at change w agrees (keeps ids) scans (λ done x among. absurd (cc)) stays, stays.led)
  where
    e : Session
    e = back.session

    now : Session
    now = returned e back.own

    scans : (f : Session) → Some now ≡ Some f → SessionScans st.heap.statuses st.heap.indexes f
    scans f same = subst (SessionScans st.heap.statuses st.heap.indexes) (same_Some now f same)
        (scans-as st.heap.statuses st.heap.indexes e now refl refl refl (agrees.sound.scans s e back.at))

    keeps : back.own.ids ≡ before → (f : Session) → Some now ≡ Some f → SessionKeeps st'.heap.statuses f
    keeps ids f same = subst (λ f. SessionKeeps st'.heap.statuses f) (same_Some now f same) (keeps-finish st.heap.statuses st'.heap.statuses back.since Aborted now back.finishes
        (keeps-returned st.heap.statuses e back.own before back.since saved ids back.saved back.were is (agrees.sound.sessions s e back.at)))
