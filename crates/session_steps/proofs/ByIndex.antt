-- What is found through an index is what is found on the heap.
use Rattle.std.proofs.Common.{◌≡◌, ℕ, List, [], ◌∷◌, length, Option, sym, ap, ◌∙◌, subst}
use Rattle.std.specs.Prelude.{◌↔◌, ℤ, Contains}
use Rattle.std.proofs.lemmas.Option.{same_Some}
use Rattle.xid_circle.specs.declared.Tid.{Tid}
use Rattle.xid_circle.proofs.Members.{Contains-none}
use Rattle.tuple_header.specs.declared.version.Row.{Row}
use Rattle.tuple_header.specs.Version.{Version}
use Rattle.commit_status.specs.Window as window
use Rattle.snapshot.specs.Snap.{Snap, Sees}
use Rattle.visibility.specs.Visible as visibility
use Rattle.visibility.proofs.Makers.{active-to}
use Rattle.sound_entries.specs.Leading.{IsOnHeap}
use Rattle.sound_entries.proofs.Leads.{visible-found}
use Rattle.table_indexes.specs.Indexes.{entries_in, since_at, IsInUse}
use Rattle.heap_write.specs.Heap.{slots_of}
use Rattle.table_integrity.proofs.InUse.{index-sound}
use Rattle.tuple_header.specs.IndexValue.{value_in}
use Rattle.history.specs.History.{Write, committed, reading}
use Rattle.history.specs.World.{World, OpenSession, joined, start_now, view}
use Rattle.visibility.specs.Seeing.{HasCommitted, VisibleBy, by_itself, by_others}
use Rattle.refinement.specs.Visible.{ReaderSees}
use Rattle.refinement.specs.Agrees as relation
use Rattle.refinement.proofs.Readers.{Levels-top}
use Rattle.visibility.specs.Visible.{state_of}
use Rattle.session_steps.proofs.Scanning.{ScansBy, now-scans, statement-scans, scans-unexcused}
use Rattle.session_steps.specs.State.{State, seen, reader_of}
use Rattle.sessions.specs.Session.{statement_snapshot}
use Rattle.session_steps.specs.Agrees.{Agrees}
use Rattle.sessions.specs.declared.session.Session.{Session}
use Rattle.sessions.specs.declared.session.SessionIsolation.{SessionIsolation}
use Rattle.session_steps.specs.Laws.{IsFound, FindsRows, FindsAtEach, FindsLevels, ViewsByIndex}
use Rattle.session_steps.proofs.Owns.{reader-is, now_taken, taken-fresh}
use Rattle.session_steps.proofs.Statements.{statement_sight, cursor_sight, statement-sees}

-- a reader whose own ids are in progress, and what it finds on the heap
by-index : (st : State) (w : World) (n : ℕ) (s : Snap) (own : List ℕ) (row : ℕ → Option Row) → Agrees st w → IsInUse st.heap.indexes n → ((x : ℕ) → Contains own x → window.IsActive st.heap.statuses x) → ScansBy st.heap.statuses (since_at st.heap.indexes n) s
    → relation.Shows (seen st).version (ReaderSees (state_of st.heap.statuses) (λ x. Sees s st.heap.statuses x) own) row → FindsRows st.heap s own n row
by-index st w n s own row agrees used active by shows = record {
  sound = λ value k p t found. let h = (on-heap value k p t).1 found in
      (ap row (sym h.of_key) ∙ shows.sound p t h.there h.has, h.of_value);
  there = λ k r is.
      let some = shows.there k r is in
      let same : some.1.row ≡ r = same_Some some.1.row r (sym (shows.sound some.0 some.1 some.2 some.4) ∙ (ap row some.3 ∙ is)) in (
        some.0,
        some.1,
        (on-heap (value_in n r) k some.0 some.1).0
            (record { there = some.2; of_value = ap (λ (r : Row). value_in n r) same; of_key = some.3; has = some.4 }),
      );
  one = λ value other k p q t u found found'. let h = (on-heap value k p t).1 found in let h' = (on-heap other k q u).1 found' in
      shows.one p q t u h.there h'.there h.has h'.has (h.of_key ∙ sym h'.of_key);
}
  where
    on-heap : (value : ℤ) (k : ℕ) (p : Tid) (t : Version)
        → IsOnHeap (value_in n) (slots_of st.heap) value k (λ t. visibility.IsVisible st.heap.statuses s own t.header) p t ↔ IsFound st.heap s own n value k p t
    on-heap value k p t = visible-found (value_in n) (since_at st.heap.indexes n) st.heap.statuses (slots_of st.heap) (entries_in st.heap.indexes n)
        (index-sound st.heap agrees.sound.table n used) s own active (scans-unexcused st w agrees n s own by active) value k p t

-- one that would begin now sees what is committed
fresh : (st : State) (w : World) → Agrees st w → relation.Shows (seen st).version (ReaderSees (state_of st.heap.statuses) (λ x. Sees (now_taken st) st.heap.statuses x) []) (committed w.history (length w.history))
fresh st w agrees = record {
  sound = λ p v at sees. agrees.found.current.sound p v at (to v sees);
  there = λ k r is. let some = agrees.found.current.there k r is in (some.0, some.1, some.2, some.3, from some.1 some.4);
  one = λ p q v u at bt sees sees'. agrees.found.current.one p q v u at bt (to v sees) (to u sees');
}
  where
    to : (v : Version) → ReaderSees (state_of st.heap.statuses) (λ x. Sees (now_taken st) st.heap.statuses x) [] v → VisibleBy (HasCommitted (state_of st.heap.statuses)) v.header
    to v sees = record {
      made = λ x is. elim (sees.made x is) [ by_itself own ↦ absurd (Contains-none x own) | by_others seen' done ↦ done ];
      kept = λ x is done. sees.kept x is (by_others ((taken-fresh st w agrees).finished x done) done);
    }

    from : (v : Version) → VisibleBy (HasCommitted (state_of st.heap.statuses)) v.header → ReaderSees (state_of st.heap.statuses) (λ x. Sees (now_taken st) st.heap.statuses x) [] v
    from v sees = record {
      made = λ x is. let done = sees.made x is in by_others ((taken-fresh st w agrees).finished x done) done;
      kept = λ x is reads. elim reads [ by_itself own ↦ Contains-none x own | by_others seen' done ↦ sees.kept x is done ];
    }

-- what a statement of a session sees on the heap, by its snapshot
shows-by : (st : State) (i : SessionIsolation) (own : List ℕ) (row : ℕ → Option Row) → window.IsWindow st.heap.statuses
    → relation.Shows (seen st).version (ReaderSees (state_of st.heap.statuses) (statement_sight st i) own) row
    → relation.Shows (seen st).version (ReaderSees (state_of st.heap.statuses) (λ x. Sees (statement_snapshot st.heap.statuses i) st.heap.statuses x) own) row
shows-by st i own row is shows = record {
  sound = λ p v at sees. shows.sound p v at ((statement-sees st is i own v).0 sees);
  there = λ k r is_row. let some = shows.there k r is_row in (some.0, some.1, some.2, some.3, (statement-sees st is i own some.1).1 some.4);
  one = λ p q v u at bt sees sees'. shows.one p q v u at bt ((statement-sees st is i own v).0 sees) ((statement-sees st is i own u).0 sees');
}

-- at each savepoint
at-each : (st : State) (w : World) (n : ℕ) (i : SessionIsolation) (start : ℕ) (own : List ℕ) (saved : List (List ℕ)) (levels : List (List Write)) → Agrees st w → IsInUse st.heap.indexes n
    → ((x : ℕ) → Contains own x → window.IsActive st.heap.statuses x) → ScansBy st.heap.statuses (since_at st.heap.indexes n) (statement_snapshot st.heap.statuses i)
    → relation.LevelsAgree (state_of st.heap.statuses) (seen st).version w.history (statement_sight st i) start own saved levels
    → FindsAtEach st.heap (statement_snapshot st.heap.statuses i) n w.history start saved levels
at-each st w n i start own [] levels agrees used active by h = tt
at-each st w n i start own (before ∷ saved) [] agrees used active by h = absurd h
at-each st w n i start own (before ∷ saved) (since ∷ levels) agrees used active by h = (
  by-index st w n (statement_snapshot st.heap.statuses i) before (reading w.history start (joined levels)) agrees used (λ x mine. active x (h.1 x mine)) by
      (shows-by st i before (reading w.history start (joined levels)) agrees.sound.window (Levels-top before saved levels h.2).rows),
  at-each st w n i start before saved levels agrees used (λ x mine. active x (h.1 x mine)) by h.2,
)

-- a session agrees with the history's, as an engine has it
abbrev SessionFound : State → World → Session → OpenSession → Type 0
SessionFound st w e m = relation.SessionAgrees (state_of st.heap.statuses) (seen st).version w.history (statement_sight st e.isolation) (start_now w.history m) (cursor_sight st e.isolation) (reader_of e) m

-- an open session
levels-by-index : (st : State) (w : World) (n : ℕ) (s : ℕ) (e : Session) (m : OpenSession) → Agrees st w → IsInUse st.heap.indexes n → ScansBy st.heap.statuses (since_at st.heap.indexes n) (statement_snapshot st.heap.statuses e.isolation)
    → SessionFound st w e m → FindsLevels st.heap n w.history e m
levels-by-index st w n s e m agrees used by h = record {
  now = by-index st w n (statement_snapshot st.heap.statuses e.isolation) e.own.ids (view w.history m) agrees used active by
      (shows-by st e.isolation e.own.ids (view w.history m) agrees.sound.window (Levels-top e.own.ids e.own.saved m.levels h.levels).rows);
  saved = at-each st w n e.isolation (start_now w.history m) e.own.ids e.own.saved m.levels agrees used active by h.levels;
}
  where
    active : (x : ℕ) → Contains e.own.ids x → window.IsActive st.heap.statuses x
    active x mine = active-to st.heap.statuses x (h.own_active x mine)

pub views-by-index : ViewsByIndex
views-by-index st w agrees n used = (
  λ s e m at there may.
      let open_ = agrees.found.opened s (reader_of e) (reader-is st s e at) in
      let is : open_.0 ≡ m = same_Some open_.0 m (sym open_.1 ∙ there) in
      levels-by-index st w n s e m agrees used (statement-scans st w agrees n s e at (sym (agrees.scans s e at n) ∙ may.1)) (subst (λ (n : OpenSession). SessionFound st w e n) is open_.2),
  by-index st w n (now_taken st) [] (committed w.history (length w.history)) agrees used (λ x mine. absurd (Contains-none x mine)) (now-scans st w agrees n) (fresh st w agrees),
)
