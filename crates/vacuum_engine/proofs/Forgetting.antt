-- An engine whose old ids are forgotten at the end of an aggressive vacuum.
use Rattle.std.proofs.Common.{◌≡◌, ◌≢◌, ◌⊎◌, ◌↔◌, ℕ, ◌≤◌, List, length, Option, Some, None, arith, refl, sym, ap, ◌∙◌, subst, inl, inr, ⊎_elim, slice_get}
use Rattle.std.specs.Prelude.{Contains, IsSome}
use Rattle.std.specs.Option.{option_map}
use Rattle.xid_circle.specs.declared.Tid.{Tid}
use Rattle.tuple_header.specs.Version.{Version}
use Rattle.page_sheet.specs.declared.slot.Slot.{Slot}
use Rattle.page_sheet.specs.Slots.{version_at}
use Rattle.page_slots.specs.View.{PageView}
use Rattle.commit_status.specs.declared.status.Status.{Status}
use Rattle.commit_status.specs.declared.status.Status.TheVariants.{InProgress, Committed, Aborted}
use Rattle.commit_status.specs.Window.{Window, IsWindow, IsGiven, IsActive, IsCommitted, IsUpToNext, place, status_of, top_of, turns}
use Rattle.commit_status.specs.Changes.{Truncates}
use Rattle.commit_status.proofs.Places.{at-from_place, some-from_is, is-from_some}
use Rattle.commit_status.proofs.Giving.{finished-place}
use Rattle.commit_status.proofs.Ancestors.{top-before}
use Rattle.snapshot.specs.Snap.{Snap, Sees, earliest}
use Rattle.snapshot.proofs.Sights.{sees-top}
use Rattle.snapshot.proofs.Takes.{first-in}
use Rattle.visibility.specs.Visible.{state_of}
use Rattle.visibility.specs.Seeing.{IsRunning, Touches}
use Rattle.visibility.proofs.Makers.{touch-cases, state-some, state-is, active-to}
use Rattle.forgetting.specs.Truncating.{ForgetsFor, IsWellTopped}
use Rattle.forgetting.specs.Pages.{AreYoung}
use Rattle.forgetting.proofs.Stays.{place-stays, stays-known, stays-next}
use Rattle.forgetting.proofs.Tops.{TopAfter, top-stays, tops-kept, same-sight, window-kept}
use Rattle.freeze.specs.Visiting.{IsYoung, SettlesOn}
use Rattle.freeze.proofs.Visiting.{true-on}
use Rattle.index_lookup.specs.Pages.{slots_on, slot_in, version_in}
use Rattle.index_lookup.proofs.PageLists.{slots-there}
use Rattle.sound_entries.proofs.Going.{stays-same}
use Rattle.table_integrity.specs.Table.{SoundTable}
use Rattle.table_integrity.proofs.InUse.{used-by}
use Rattle.heap_write.specs.Heap.{HeapView, slots_of}
use Rattle.heap_write.specs.Cleaning.{ForgetsBefore}
use Rattle.history.specs.World.{World}
use Rattle.refinement.specs.Heap as relation
use Rattle.refinement.specs.Agrees as relation_agrees
use Rattle.refinement.specs.Settling.{ForgetsIds}
use Rattle.refinement.proofs.ForgettingLemmas.{Agrees-forgets}
use Rattle.calls.specs.declared.vacuum.Mode.TheVariants.{Aggressive}
use Rattle.refinement.proofs.Runs.{unmade}
use Rattle.sessions.specs.declared.session.Session.{Session}
use Rattle.session_steps.specs.State.{State, session_at, seen, seen_in, reader_of, horizon_of}
use Rattle.sessions.specs.Session.{kept_by, held_back}
use Rattle.session_steps.specs.Agrees.{SessionKeeps, SessionScans, Agrees, KeepsAllTargets}
use Rattle.sound_entries.specs.Since.{IsExactSince, MayScanSince}
use Rattle.table_integrity.proofs.Forgetting.{truncated-window, forgotten-table, forgotten-since, forgotten-scan, committed-ended}
use Rattle.table_indexes.specs.Indexes.{IndexesView, entries_at, since_at, since_after, IsInUse}
use Rattle.index_entries.specs.declared.entry.Entry.{Entry}
use Rattle.session_steps.proofs.InUse.{marks-stay, agree}
use Rattle.session_steps.proofs.Owns.{reader-is, reader-at}
use Rattle.session_steps.proofs.Statements.{kept-at}
use Rattle.session_steps.proofs.Horizons.{below-xmin}
use Rattle.vacuum_passes.specs.View.{VacuumView}
use Rattle.sound_vacuum.specs.Maps.{MapsAreTrue}
use Rattle.sound_vacuum.specs.Vacuuming.{KeepsVacuum, IsVacuumed}
use Rattle.session_steps.proofs.MakingLemmas.{given-from}
use Rattle.vacuum_engine.specs.Laws.{TrueMaps, with_heap}
use Rattle.vacuum_engine.proofs.Agreeing.{active-late}

-- Ids.

module _ (w v : Window) (c : ℕ) (is : IsWindow w) (iv : IsWindow v) (t : Truncates w v c) (up : IsUpToNext w c) where
  -- an id that is not before the cutoff stays
  given-stays : (x : ℕ) → IsGiven w x → turns w.first c ≤ turns w.first x → IsGiven v x
  given-stays x there late =
      let i = some-from_is (place w x) there in
      let turn = (at-from_place w.first (length w.entries) x i.0 i.1).turn in
      is-from_some (place v x) _ (place-stays w v c is iv t up x i.0 i.1 (omega (arith, turn, late)))

  -- what is known of an id that stays
  state-same : (x : ℕ) → IsGiven v x → state_of v x ≡ state_of w x
  state-same x there =
      let known = stays-known w v c x is iv t up there in
      state-is v x (status_of w x) there known.1 ∙ sym (state-is w x (status_of w x) known.0 refl)

  state-cases : (x : ℕ) → (state_of v x ≡ state_of w x) ⊎ (state_of v x ≡ None)
  state-cases x = by (place v x) refl
    where
      by : (o : Option ℕ) → place v x ≡ o → (state_of v x ≡ state_of w x) ⊎ (state_of v x ≡ None)
      by None none = inr (ap (option_map (λ _. status_of v x)) none)
      by (Some i) at = inl (state-same x (is-from_some (place v x) i at))

  -- what had finished and stays has its status
  ended-stays : (x : ℕ) (status : Status) → status_of w x ≡ status → status ≢ InProgress → turns w.first c ≤ turns w.first x → status_of v x ≡ status
  ended-stays x status e ended late =
      let at = finished-place w x (λ active. ended (sym e ∙ active)) in
      (stays-known w v c x is iv t up (given-stays x (is-from_some (place w x) at.0 at.1) late)).1 ∙ e

  -- where the topmost parent stays, it is the same
  top-same : (x : ℕ) → IsGiven v x → IsGiven w (top_of w x) → turns w.first c ≤ turns w.first (top_of w x) → top_of v x ≡ top_of w x
  top-same x there top late = by (top-stays w v c is iv t up x there)
    where
      by : TopAfter w v c x → top_of v x ≡ top_of w x
      by (TopAfter.same s) = s
      by (TopAfter.forgotten i at less on) =
          let j = some-from_is (place w (top_of w x)) top in
          let turn = (at-from_place w.first (length w.entries) (top_of w x) j.0 j.1).turn in
          let before = top-before w (top_of v x) i j.0 is at (ap (place w) (sym on) ∙ j.1) in
          absurd (omega (arith, turn, before, less, late))

-- The engine.

module _ (st : State) (u : Window) (xs : IndexesView) (w : World) (v : VacuumView) (agrees : Agrees st w) (maps : TrueMaps st) (keeps : KeepsVacuum st.heap (horizon_of st) v)
    (young : (p : Tid) (t : Version) → version_in (slots_of st.heap) p ≡ Some t → IsYoung st.heap.statuses v.cutoff t.header) (t : Truncates st.heap.statuses u v.cutoff)
    (entries : (n : ℕ) → entries_at xs n ≡ entries_at st.heap.indexes n) (sinces : (n : ℕ) → since_at xs n ≡ since_after v.cutoff (since_at st.heap.indexes n)) where
  abbrev before : Window
  before = st.heap.statuses

  abbrev c : ℕ
  c = v.cutoff

  abbrev after : HeapView
  after = record st.heap { statuses = u; indexes = xs }

  is : IsWindow before
  is = agrees.sound.window

  up : IsUpToNext before c
  up = keeps.cutoff

  iv : IsWindow u
  iv = truncated-window before u c is t up

  low : turns before.first c ≤ turns before.first (horizon_of st)
  low = let a = keeps.cutoff_first in let b = keeps.horizon_first in omega (arith, a, b)

  -- ids in progress stay,
  active-after : (x : ℕ) → IsActive before x → turns before.first c ≤ turns before.first x
  active-after x active = let late = active-late st w agrees x active in let l = low in omega (arith, late, l)

  active-stays : (x : ℕ) → IsActive before x → IsGiven u x
  active-stays x active = given-stays before u c is iv t up x active.is_given (active-after x active)

  -- and so do their topmost parents, which are in progress too
  own-active : (s : ℕ) (e : Session) → session_at st s ≡ Some e → (x : ℕ) → Contains e.own.ids x → IsActive before x
  own-active s e at x mine = active-to before x ((agrees.found.opened s (reader_of e) (reader-is st s e at)).2.own_active x mine)

  own-top : (s : ℕ) (e : Session) → session_at st s ≡ Some e → (x : ℕ) → Contains e.own.ids x → top_of u x ≡ top_of before x
  own-top s e at x mine =
      let first = (agrees.sound.sessions s e at).topmost x mine in
      let top = own-active s e at (top_of before x) (first-in e.own.ids (top_of before x) first) in
      top-same before u c is iv t up x (active-stays x (own-active s e at x mine)) top.is_given (active-after (top_of before x) top)

  -- Pages.

  abbrev pages : List (List Slot)
  pages = slots_of st.heap

  young-on : (n : ℕ) → AreYoung before c (slots_on pages n)
  young-on n = record {
    makers = λ k r at thawed. (young (record { page = n; slot = k }) r at).inserter thawed;
    deleters = λ k r at some. (young (record { page = n; slot = k }) r at).deleter some;
  }

  table-sound : SoundTable after
  table-sound = forgotten-table st.heap after c agrees.sound.table is up young-on agrees.sound.since (record { is = refl; truncates = t; entries = entries; since = sinces })

  -- Readers.

  touched : (p : Tid) (r : Version) (x : ℕ) → version_in pages p ≡ Some r → Touches x r.header → state_of u x ≡ state_of before x
  touched p r x at touch =
      let there = given-from (place before x) (status_of before x) (agrees.found.given p x r at touch) in
      let late : turns before.first c ≤ turns before.first x = ⊎_elim
      (λ made. subst (λ y. turns before.first c ≤ turns before.first y) made.1 ((young p r at).inserter made.0))
      (λ gone. subst (λ y. turns before.first c ≤ turns before.first y) gone.1 ((young p r at).deleter gone.0))
      (touch-cases r.header x touch) in
      state-same before u c is iv t up x (given-stays before u c is iv t up x there late)

  -- who keeps the snapshot
  abbrev KeptAt : ℕ → Session → Snap → Type 0
  KeptAt s e snap = (session_at st s ≡ Some e) × (kept_by e.isolation ≡ Some snap)

  forgets-for : (s : ℕ) (e : Session) (snap : Snap) → KeptAt s e snap → ForgetsFor before u c snap
  forgets-for s e snap kept = record {
    before = is;
    after = iv;
    truncates = t;
    upto = up;
    low = let a = low in let b = below-xmin st w agrees s e snap kept.0 kept.1 in omega (arith, a, b);
  }

  sight-by : (s : ℕ) (e : Session) (snap : Snap) → KeptAt s e snap → (x : ℕ) (status : Status) → status ≢ Aborted → state_of u x ≡ Some status → Sees snap before x ↔ Sees snap u x
  sight-by s e snap kept x InProgress ended now =
      let there = (state-some u x InProgress now).0 in
      let running : IsRunning (state_of before) x = sym (state-same before u c is iv t up x there) ∙ now in
      let by = agrees.found.owned x running in
      let o = reader-at st by.0 by.1 by.2 in
      let top = own-top by.0 o.0 o.1 x (subst (λ (r : relation.SeenSession). Contains r.own x) (sym o.2) by.3) in
      (sees-top snap u before x top, sees-top snap before u x (sym top))
  sight-by s e snap kept x Committed ended now =
      let k = state-some u x Committed now in
      let known = stays-known before u c x is iv t up k.0 in
      same-sight before u c snap (forgets-for s e snap kept) ((agrees.sound.sessions s e kept.0).snapshot snap kept.1) x k.0 (agrees.sound.tops x (sym known.1 ∙ k.1))
  sight-by s e snap kept x Aborted ended now = absurd (ended refl)

  forgets-ids : ForgetsIds (seen st) (state_of u) (λ s x. Sees s u x)
  forgets-ids = record {
    each = state-cases before u c is iv t up;
    touched = touched;
    active = λ x running. state-same before u c is iv t up x (active-stays x (active-to before x running));
    sight = λ snap kept x status ended now. let k = kept-at st snap kept in sight-by k.0 k.1 snap (k.2, k.3) x status ended now;
  }

  found : relation_agrees.HeapAgrees (seen_in pages u st.sessions) w
  found = Agrees-forgets (seen st) (state_of u) (λ s x. Sees s u x) forgets-ids w agrees.found

  session-keeps : (s : ℕ) (e : Session) → session_at st s ≡ Some e → SessionKeeps u e
  session-keeps s e at =
      let k = agrees.sound.sessions s e at in
      record {
        snapshot = λ snap kept. window-kept before u c snap (forgets-for s e snap (at, kept)) (k.snapshot snap kept);
        for_cursor = k.for_cursor;
        topmost = λ x mine. k.topmost x mine ∙ ap Some (sym (own-top s e at x mine));
        prefixes = k.prefixes;
        distinct = k.distinct;
      }

  tops : (x : ℕ) → IsCommitted u x → IsWellTopped u x
  tops x done =
      let i = finished-place u x (λ active. committed-ended (sym done ∙ active)) in
      let there = is-from_some (place u x) i.0 i.1 in
      let known = stays-known before u c x is iv t up there in
      tops-kept before u c is iv t up x there (agrees.sound.tops x (sym known.1 ∙ done))

  same-used : (n : ℕ) → IsInUse st.heap.indexes n ↔ IsInUse xs n
  same-used n = (λ used. subst (λ (o : Option (List Entry)). IsSome o) (sym (entries n)) used, λ used. subst (λ (o : Option (List Entry)). IsSome o) (entries n) used)

  -- who may scan an index may scan it still
  scan-stays : (s : ℕ) (e : Session) (snap : Snap) → KeptAt s e snap → (n : ℕ) → MayScanSince before (since_at st.heap.indexes n) snap → MayScanSince u (since_at xs n) snap
  scan-stays s e snap kept n may = subst (λ (since : Option ℕ). MayScanSince u since snap) (sym (sinces n))
      (forgotten-scan before u c (since_at st.heap.indexes n) snap is up t (agrees.sound.since n) ((agrees.sound.sessions s e kept.0).snapshot snap kept.1).bounds.xmin (forgets-for s e snap kept).low may)

  session-scans : (s : ℕ) (e : Session) → session_at st s ≡ Some e → SessionScans u xs e
  session-scans s e at =
      let h = agrees.sound.scans s e at in
      record {
        by_snapshot = λ n snap reads may. scan-stays s e snap (at, ap kept_by reads) n (h.by_snapshot n snap reads may);
        cursor = λ span is. let g = h.cursor span is in ((same-used span.index).0 g.0, λ snap kept. scan-stays s e snap (at, kept) span.index (g.1 snap kept));
      }

  -- the horizon is the same number
  horizon-same : horizon_of st ≡ horizon_of (with_heap st after)
  horizon-same = ap (λ n. earliest n (held_back st.sessions)) (sym (stays-next before u c is iv t up))

  pub forgotten-agrees : Agrees (with_heap st after) w
  forgotten-agrees = agree agrees same-used (marks-stay st.sessions) (unmade refl refl) agrees.written found (record {
    count = agrees.sound.count;
    max_pages = agrees.sound.max_pages;
    stop_age = t.stop_age ∙ agrees.sound.stop_age;
    window = iv;
    sessions = session-keeps;
    tops = tops;
    by_key = (same-used 0).0 agrees.sound.by_key;
    since = λ n. subst (IsExactSince u) (sym (sinces n)) (forgotten-since before u c (since_at st.heap.indexes n) is up t (agrees.sound.since n));
    scans = session-scans;
    table = table-sound;
  })

  -- What was noted of pages.

  settles-on : (n : ℕ) (page : PageView) → slice_get st.heap.pages.pages n ≡ Some page → SettlesOn before u (horizon_of st) (horizon_of st) page.slots
  settles-on n page at = record {
    committed = λ k r there thawed done. ended-stays before u c is iv t up r.header.xmin.0 Committed done committed-ended
        ((young-on n).makers k r (ap (λ slots. version_at slots k) (slots-there st.heap.pages.pages n page at) ∙ there) thawed);
    past = λ x done early. early;
  }

  pub forgotten-maps : TrueMaps (with_heap st after)
  forgotten-maps = subst (λ n. MapsAreTrue u n st.heap.pages.pages st.heap.pages.marks) horizon-same (record {
    count = maps.count;
    true_marks = λ n page at. true-on before u (horizon_of st) (horizon_of st) page.slots (settles-on n page at) _ (maps.true_marks n page at);
    true_flags = maps.true_flags;
  })

  -- no slot is another
  pub forgotten-led : KeepsAllTargets st (with_heap st after)
  forgotten-led n e there among = stays-same (slot_in pages e.tid) ((agrees.sound.table.indexes n (used-by st.heap.indexes n e there)).leads e there)

-- An aggressive vacuum that ends lets old ids be forgotten.
pub forgetting-led : (st : State) (h : HeapView) (w : World) (v : VacuumView) → Agrees st w → TrueMaps st → KeepsVacuum st.heap (horizon_of st) v
    → IsVacuumed st.heap (horizon_of st) v → v.mode ≡ Aggressive → ForgetsBefore st.heap h v.cutoff → KeepsAllTargets st (with_heap st h)
forgetting-led st h w v agrees maps keeps vacuumed mode f =
    subst (λ (g : HeapView). KeepsAllTargets st (with_heap st g)) (sym f.is) (forgotten-led st h.statuses h.indexes w v agrees maps keeps (vacuumed.young mode) f.truncates f.entries f.since)

pub forgetting-agrees : (st : State) (h : HeapView) (w : World) (v : VacuumView) → Agrees st w → TrueMaps st → KeepsVacuum st.heap (horizon_of st) v
    → IsVacuumed st.heap (horizon_of st) v → v.mode ≡ Aggressive → ForgetsBefore st.heap h v.cutoff → Agrees (with_heap st h) w × TrueMaps (with_heap st h)
forgetting-agrees st h w v agrees maps keeps vacuumed mode f =
    subst (λ (g : HeapView). Agrees (with_heap st g) w × TrueMaps (with_heap st g)) (sym f.is) (
      forgotten-agrees st h.statuses h.indexes w v agrees maps keeps (vacuumed.young mode) f.truncates f.entries f.since,
      forgotten-maps st h.statuses h.indexes w v agrees maps keeps (vacuumed.young mode) f.truncates f.entries f.since,
    )
