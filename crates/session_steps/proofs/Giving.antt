-- A session writes under the id of its newest level, or under a new one: what that keeps, whatever it writes.
use Rattle.std.proofs.Common.{◌≡◌, ℕ, List, [], ◌∷◌, ◌++◌, length, set, Option, Some, None, slice_get, refl, sym, ap, ◌∙◌, subst, ◌⊎◌, inl, inr, append_assoc, arith}
use Rattle.std.proofs.Math.ListN.{length-set}
use Rattle.std.specs.Prelude.{Contains}
use Rattle.std.specs.Option.{option_map}
use Rattle.std.proofs.lemmas.Bool.{cases_eq}
use Rattle.std.proofs.lemmas.Option.{same_Some, none-some}
use Rattle.std.proofs.lemmas.List.{append-nil}
use Rattle.std.proofs.lemmas.List.Elements.{Contains-append_cases}
use Rattle.xid_circle.proofs.Members.{Contains-none}
use Rattle.page_sheet.specs.declared.slot.Slot.{Slot}
use Rattle.commit_status.specs.Window.{Window, IsWindow, IsActive, IsCommitted, IsGiven, IsGivenBefore, IsUpToNext, top_of, place}
use Rattle.commit_status.proofs.Places.{place-lt, some-from_is, is-from_some}
use Rattle.commit_status.proofs.Ancestors.{top-same}
use Rattle.commit_status.proofs.Giving.{finished-place}
use Rattle.snapshot.specs.Own.{Own, ArePrefixes, AreDistinct, unassigned_levels, current_xid, saved_with_each}
use Rattle.snapshot.specs.Snap.{Snap, Sees}
use Rattle.snapshot.specs.Laws.{IsInWindow}
use Rattle.snapshot.proofs.Sights.{sees-top}
use Rattle.snapshot.proofs.Levels.{level-among, level-mine, level-none, level-some, level-newest, unassigned_levels-given, prefixes-given}
use Rattle.visibility.proofs.Makers.{active-to}
use Rattle.heap_write.specs.Heap.{HeapView}
use Rattle.write_ids.specs.Ids.{SameIds, SameOwn, GivesUnder, TakesIds}
use Rattle.forgetting.specs.Truncating.{IsWellTopped}
use Rattle.forgetting.proofs.WellTopped.{before-place}
use Rattle.write_ids.proofs.GivenIds.{given-window, given-place, given-earlier, given-first, given-status, given-top_old, given-new, given-distinct, given-top, given-top_first}
use Rattle.table_integrity.specs.Table.{StaysSoundTable}
use Rattle.session_steps.proofs.InUse.{scans-still, scans-as, scans-put}
use Rattle.table_indexes.specs.Indexes.{since_at}
use Rattle.history.specs.World.{World}
use Rattle.refinement.specs.Heap as relation
use Rattle.refinement.specs.Agrees as theory
use Rattle.refinement.specs.Changes.{GivesEach, with_id, with_ids}
use Rattle.refinement.proofs.Itself.{IsCurrent}
use Rattle.refinement.proofs.Isolations.{SameSights}
use Rattle.refinement.proofs.Steps.{OnlyIs}
use Rattle.refinement.proofs.GivenBelow.{AreUnseen, Agrees-give_each}
use Rattle.refinement.proofs.Follows.{Agrees-sessions}
use Rattle.refinement.proofs.Sights.{Agrees-sights}
use Rattle.sessions.specs.declared.session.Session.{Session}
use Rattle.visibility.specs.Visible.{state_of}
use Rattle.session_steps.specs.State.{State, session_at, seen, seen_in, reader_of}
use Rattle.session_steps.specs.Keeps.{OwnIdsKeep, EngineKeeps}
use Rattle.sessions.specs.Places.{open_at}
use Rattle.session_steps.specs.Agrees.{Agrees, Sound, SessionKeeps, SessionScans}
use Rattle.sound_entries.specs.Since.{IsExactSince}
use Rattle.sound_entries.proofs.Since.{giving-since}
use Rattle.session_steps.proofs.OwnIdsLemmas.{open-within, open-set_same, open-set_other, open-set_cases, distinct-both, keep-same, keep-given}
use Rattle.session_steps.proofs.StateLemmas.{only-set, with_own}
use Rattle.session_steps.proofs.Windows.{GivesEach-from, SameSight-given, in-window-given, unseen-given}
use Rattle.session_steps.proofs.Owns.{reader-is}
use Rattle.session_steps.proofs.Statements.{kept-at}

-- the state after a write: another heap, and another session in its place
abbrev pub with_write : State → HeapView → ℕ → Session → State
with_write st h s e = record { settings = st.settings; heap = h; sessions = set st.sessions s (Some e) }

-- A session that has as much memory or more, and is otherwise the same.

reader-same : (e : Session) (own : Own) → SameOwn e.own own → reader_of (with_own e own) ≡ reader_of e
reader-same e own same = rw (same.ids, same.saved) refl

pub sessions-same : (xs : List (Option Session)) (s : ℕ) (e : Session) (own : Own) → open_at xs s ≡ Some e → SameOwn e.own own → (o : ℕ) → option_map reader_of (open_at (set xs s (Some (with_own e own))) o) ≡ option_map reader_of (open_at xs o)
sessions-same xs s e own at same o = elim (cases_eq o s) [
  | inl here ↦ ap (λ o. option_map reader_of (open_at (set xs s (Some (with_own e own))) o)) here
      ∙ (ap (option_map reader_of) (open-set_same xs s (Some (with_own e own)) (open-within xs s e at)) ∙ (ap Some (reader-same e own same) ∙ (sym (ap (option_map reader_of) at) ∙ ap (λ o. option_map reader_of (open_at xs o)) (sym here))))
  | inr ne ↦ ap (option_map reader_of) (open-set_other xs s o (Some (with_own e own)) ne)
]

-- The ids are as they were, though there may be more memory.

abbrev spared : Window → ℕ → Window
spared w k = record w { spare = k }

spared-is : (w v : Window) → SameIds w v → v ≡ spared w v.spare
spared-is w v same = rw (same.first, same.stop_age, same.entries) refl

top-spared : (w : Window) (k x : ℕ) → top_of (spared w k) x ≡ top_of w x
top-spared w k x = top-same (length w.entries) (spared w k) w x (λ y. refl)

window-spared : (w : Window) (k : ℕ) → IsWindow w → IsWindow (spared w k)
window-spared w k is = record { normal = is.normal; fits = is.fits; limit = is.limit; short = is.short; parents = is.parents }

upto-spared : (w : Window) (k x : ℕ) → IsUpToNext w x → IsUpToNext (spared w k) x
upto-spared w k x h = record { normal = h.normal; fits = h.fits; reached = h.reached }

well-spared : (w : Window) (k x : ℕ) → IsWellTopped w x → IsWellTopped (spared w k) x
well-spared w k x h = record {
  finished = λ active. let a = subst (IsActive (spared w k)) (top-spared w k x) active in h.finished (record { is_given = a.is_given; unfinished = a.unfinished });
  near = subst (λ t. (t ≡ x) ⊎ IsGivenBefore t x) (sym (top-spared w k x)) h.near;
}

in-window-spared : (w : Window) (k : ℕ) (s : Snap) → IsInWindow w s → IsInWindow (spared w k) s
in-window-spared w k s h =
    let b = h.bounds in
    record {
      bounds = record { xmin = upto-spared w k s.xmin b.xmin; xmax = upto-spared w k s.xmax b.xmax; ordered = b.ordered };
      listed = λ x among. let l = h.listed x among in record { upto = upto-spared w k x l.upto; from_xmin = l.from_xmin; before_xmax = l.before_xmax };
    }

since-spared : (w : Window) (k : ℕ) (since : Option ℕ) → IsExactSince w since → IsExactSince (spared w k) since
since-spared w k None exact = tt
since-spared w k (Some id) exact = record { upto = upto-spared w k id exact.upto; ended = λ x active. exact.ended x (record { is_given = active.is_given; unfinished = active.unfinished }) }

keeps-spared : (w : Window) (k : ℕ) (e : Session) (own : Own) → SameOwn e.own own → SessionKeeps w e → SessionKeeps (spared w k) (with_own e own)
keeps-spared w k e own same h = record {
  snapshot = λ snap is. in-window-spared w k snap (h.snapshot snap is);
  for_cursor = h.for_cursor;
  topmost = λ x mine. ap (λ ids. slice_get ids 0) same.ids ∙ h.topmost x (subst (λ ids. Contains ids x) same.ids mine) ∙ ap Some (sym (top-spared w k x));
  prefixes = rw (same.ids, same.saved) h.prefixes;
  distinct = subst AreDistinct (sym same.ids) h.distinct;
}

-- what readers see of the ids
found-spared : (slots : List (List Slot)) (w v : Window) (xs : List (Option Session)) (m : World) → SameIds w v → theory.HeapAgrees (seen_in slots w xs) m → theory.HeapAgrees (seen_in slots v xs) m
found-spared slots w v xs m same found = subst (λ t. theory.HeapAgrees (seen_in slots t xs) m) (sym (spared-is w v same))
    (Agrees-sights (seen_in slots w xs) m (λ s x. Sees s (spared w v.spare) x)
    (λ snap kept x status is. (λ sees. sees-top snap (spared w v.spare) w x (top-spared w v.spare x) sees, λ sees. sees-top snap w (spared w v.spare) x (sym (top-spared w v.spare x)) sees)) found)

-- all that readers see is as it was
pub found-kept : (slots : List (List Slot)) (w v : Window) (xs : List (Option Session)) (s : ℕ) (e : Session) (own : Own) (m : World) → open_at xs s ≡ Some e → SameOwn e.own own → SameIds w v
    → theory.HeapAgrees (seen_in slots w xs) m → theory.HeapAgrees (seen_in slots v (set xs s (Some (with_own e own)))) m
found-kept slots w v xs s e own m at same ids found =
    Agrees-sessions (seen_in slots v xs) m (λ o. option_map reader_of (open_at (set xs s (Some (with_own e own))) o)) (sessions-same xs s e own at same) (found-spared slots w v xs m ids found)

-- Ids are given.

-- the others keep theirs
keeps-give : (xs : List ℕ) (w v : Window) (parent : Option ℕ) (e : Session) → IsWindow v → GivesUnder w parent xs v → ((x : ℕ) → Contains e.own.ids x → IsGiven w x) → SessionKeeps w e → SessionKeeps v e
keeps-give xs w v parent e is gives there h = record {
  snapshot = λ snap is. in-window-given xs w v parent snap gives (h.snapshot snap is);
  for_cursor = h.for_cursor;
  topmost = λ x mine. h.topmost x mine ∙ ap Some (sym (given-top_old xs w v parent x gives is (there x mine)));
  prefixes = h.prefixes;
  distinct = h.distinct;
}

first-append : (ids xs : List ℕ) (top : ℕ) → slice_get ids 0 ≡ Some top → slice_get (ids ++ xs) 0 ≡ Some top
first-append [] xs top at = absurd (none-some top at)
first-append (y ∷ ids) xs top at = at

-- each new id has the topmost parent of those that were there, or the first of the new ones
new-topmost : (ids xs : List ℕ) (saved : List (List ℕ)) (w v : Window) (y : ℕ) → ArePrefixes ids saved → IsWindow v → GivesUnder w (current_xid ids saved) xs v → ((x : ℕ) → Contains ids x → IsGiven w x)
    → ((x : ℕ) → Contains ids x → slice_get ids 0 ≡ Some (top_of w x)) → Contains xs y → slice_get (ids ++ xs) 0 ≡ Some (top_of v y)
new-topmost [] [] saved w v y prefixes is gives there tops among = absurd (Contains-none y among)
new-topmost [] (x ∷ xs) saved w v y prefixes is gives there tops among =
    ap Some (sym (given-top_first x xs w v y (subst (λ o. GivesUnder w o (x ∷ xs) v) (level-none saved prefixes) gives) is among))
new-topmost (z ∷ ids) xs saved w v y prefixes is gives there tops among =
    let level = level-some z ids saved prefixes in
    let mine = level-among (z ∷ ids) saved level.0 prefixes level.1 in
    tops level.0 mine ∙ ap Some (sym (given-top xs w v level.0 y (subst (λ o. GivesUnder w o xs v) level.1 gives) is (there level.0 mine) among))

module _ (w v : Window) (e : Session) (own : Own) (x : ℕ) (is : IsWindow v) (takes : TakesIds w v e.own own x) (there : (x : ℕ) → Contains e.own.ids x → IsGiven w x) (h : SessionKeeps w e) where
  prefixes-taken : ArePrefixes own.ids own.saved
  prefixes-taken = rw (takes.ids, takes.saved) (prefixes-given takes.given e.own.ids e.own.saved h.prefixes takes.count)

  unassigned_levels-taken : unassigned_levels own.ids own.saved ≡ 0
  unassigned_levels-taken = rw (takes.ids, takes.saved) (unassigned_levels-given takes.given e.own.ids e.own.saved takes.count)

  distinct-taken : AreDistinct own.ids
  distinct-taken = subst AreDistinct (sym takes.ids) (distinct-both e.own.ids takes.given h.distinct (given-distinct takes.given w v (current_xid e.own.ids e.own.saved) takes.gives is)
      (λ y now old. given-new takes.given w v (current_xid e.own.ids e.own.saved) y takes.gives is now (there y old)))

  topmost-taken : (y : ℕ) → Contains own.ids y → slice_get own.ids 0 ≡ Some (top_of v y)
  topmost-taken y mine = ap (λ ids. slice_get ids 0) takes.ids ∙ elim (Contains-append_cases e.own.ids takes.given y (subst (λ ids. Contains ids y) takes.ids mine)) [
    | inl old ↦ first-append e.own.ids takes.given (top_of v y) (h.topmost y old ∙ ap Some (sym (given-top_old takes.given w v (current_xid e.own.ids e.own.saved) y takes.gives is (there y old))))
    | inr new ↦ new-topmost e.own.ids takes.given e.own.saved w v y h.prefixes is takes.gives there h.topmost new
  ]

  -- the session that took them
  keeps-taken : SessionKeeps v (with_own e own)
  keeps-taken = record {
    snapshot = λ snap is. in-window-given takes.given w v (current_xid e.own.ids e.own.saved) snap takes.gives (h.snapshot snap is);
    for_cursor = h.for_cursor;
    topmost = topmost-taken;
    prefixes = prefixes-taken;
    distinct = distinct-taken;
  }

  -- writes under the id of its newest level
  current-taken : IsCurrent (reader_of (with_own e own)) x
  current-taken = record {
    mine = level-mine own.ids own.saved x unassigned_levels-taken takes.newest;
    newest = λ before at. level-newest own.ids own.saved x prefixes-taken distinct-taken unassigned_levels-taken takes.newest before at;
  }

-- a topmost parent that is in progress was before: it stands before its child, so it isn't one of the new ids
tops-given : (xs : List ℕ) (w v : Window) (parent : Option ℕ) → IsWindow v → GivesUnder w parent xs v → ((x : ℕ) → IsCommitted w x → IsWellTopped w x) → (x : ℕ) → IsCommitted v x → IsWellTopped v x
tops-given xs w v parent is gives tops x done =
    let was : IsCommitted w x = sym (given-status xs w v parent x gives is) ∙ done in
    let at = finished-place w x (λ going. cc) in
    let top : top_of v x ≡ top_of w x = given-top_old xs w v parent x gives is (is-from_some (place w x) at.0 at.1) in
    record {
      finished = λ active. let active' = subst (IsActive v) top active in
          let there = some-from_is (place v (top_of w x)) active'.is_given in
          let before = before-place v (top_of w x) x at.0 there.0 is (given-place xs w v parent x at.0 gives at.1) there.1 (tops x was).near in
          (tops x was).finished (record {
            is_given = is-from_some (place w (top_of w x)) there.0 (given-earlier xs w v parent (top_of w x) there.0 gives there.1 (let within = place-lt w x at.0 at.1 in omega arith));
            unfinished = sym (given-status xs w v parent (top_of w x) gives is) ∙ active'.unfinished;
          });
      near = subst (λ t. (t ≡ x) ⊎ IsGivenBefore t x) (sym top) (tops x was).near;
    }

-- the limit of ids stays
given-stop_age : (xs : List ℕ) (w v : Window) (parent : Option ℕ) → GivesUnder w parent xs v → v.stop_age ≡ w.stop_age
given-stop_age [] w v parent g = ap (λ (w : Window). w.stop_age) g
given-stop_age (x ∷ xs) w v parent g = given-stop_age xs g.0 v (Some x) g.3 ∙ g.2.stop_age

-- what was exact from an id on still is
since-given : (xs : List ℕ) (w v : Window) (parent since : Option ℕ) → IsWindow v → GivesUnder w parent xs v → IsExactSince w since → IsExactSince v since
since-given [] w v parent since is gives exact = subst (λ v. IsExactSince v since) (sym gives) exact
since-given (x ∷ xs) w v parent since is gives exact =
    since-given xs gives.0 v (Some x) since is gives.3
    (giving-since w gives.0 parent since (given-window (x ∷ xs) w v parent gives is) (given-window xs gives.0 v (Some x) gives.3 is) gives.2 exact)

-- The engine after a write, or after one that failed.

module _ (st : State) (w : World) (h : HeapView) (s : ℕ) (e : Session) (own : Own) (at : session_at st s ≡ Some e) (agrees : Agrees st w) where
  abbrev e' : Session
  e' = with_own e own

  -- the session's ids stay
  pub Sound-kept : SameOwn e.own own → SameIds st.heap.statuses h.statuses → h.max_pages ≡ st.heap.max_pages → StaysSoundTable st.heap h → Sound (with_write st h s e')
  Sound-kept same ids limit stays =
      let sound = stays.sound in
      let is = spared-is st.heap.statuses h.statuses ids in
      let k = h.statuses.spare in
      let statuses = st.heap.statuses in
      record {
        count = length-set st.sessions s (Some e') ∙ agrees.sound.count;
        max_pages = limit ∙ agrees.sound.max_pages;
        stop_age = ids.stop_age ∙ agrees.sound.stop_age;
        window = rw is (window-spared statuses k agrees.sound.window);
        sessions = λ o f bt. rw is (elim (open-set_cases st.sessions s o (Some e') f (open-within st.sessions s e at) bt) [
          | inl now ↦ subst (λ f. SessionKeeps (spared statuses k) f) (same_Some e' f now.1) (keeps-spared statuses k e own same (agrees.sound.sessions s e at))
          | inr other ↦ keeps-spared statuses k f f.own (record { ids = refl; saved = refl }) (agrees.sound.sessions o f other.1)
        ]);
        by_key = (stays.in_use 0).0 agrees.sound.by_key;
        since = λ n. subst (IsExactSince h.statuses) (sym (stays.since n)) (rw is (since-spared statuses k (since_at st.heap.indexes n) (agrees.sound.since n)));
        scans = scans-put h.statuses h.indexes st.sessions s e' (open-within st.sessions s e at)
            (scans-as h.statuses h.indexes e e' refl refl refl (scans-still statuses h.statuses st.heap.indexes h.indexes ids.first stays.in_use stays.since e (agrees.sound.scans s e at)))
            (λ o f bt. scans-still statuses h.statuses st.heap.indexes h.indexes ids.first stays.in_use stays.since f (agrees.sound.scans o f bt));
        tops = rw is (λ x done. well-spared statuses k x (agrees.sound.tops x done));
        table = sound;
      }

  -- the session has taken ids
  pub Sound-given : (x : ℕ) → TakesIds st.heap.statuses h.statuses e.own own x → IsWindow h.statuses → h.max_pages ≡ st.heap.max_pages → StaysSoundTable st.heap h → Sound (with_write st h s e')
  Sound-given x takes window limit stays =
      let sound = stays.sound in
      let statuses = st.heap.statuses in
      let parent = current_xid e.own.ids e.own.saved in
      let there : (o : ℕ) (f : Session) → session_at st o ≡ Some f → (y : ℕ) → Contains f.own.ids y → IsGiven statuses y =
      λ o f bt y mine. (active-to statuses y ((agrees.found.opened o (reader_of f) (reader-is st o f bt)).2.own_active y mine)).is_given in
      record {
        count = length-set st.sessions s (Some e') ∙ agrees.sound.count;
        max_pages = limit ∙ agrees.sound.max_pages;
        stop_age = given-stop_age takes.given statuses h.statuses parent takes.gives ∙ agrees.sound.stop_age;
        window = window;
        sessions = λ o f bt. elim (open-set_cases st.sessions s o (Some e') f (open-within st.sessions s e at) bt) [
          | inl now ↦ subst (λ f. SessionKeeps h.statuses f) (same_Some e' f now.1) (keeps-taken statuses h.statuses e own x window takes (there s e at) (agrees.sound.sessions s e at))
          | inr other ↦ keeps-give takes.given statuses h.statuses parent f window takes.gives (there o f other.1) (agrees.sound.sessions o f other.1)
        ];
        by_key = (stays.in_use 0).0 agrees.sound.by_key;
        since = λ n. subst (IsExactSince h.statuses) (sym (stays.since n)) (since-given takes.given statuses h.statuses parent (since_at st.heap.indexes n) window takes.gives (agrees.sound.since n));
        scans =
            let first = given-first takes.given statuses h.statuses parent takes.gives in
            let still : (o : ℕ) (f : Session) → session_at st o ≡ Some f → SessionScans h.statuses h.indexes f = λ o f bt. scans-still statuses h.statuses st.heap.indexes h.indexes first stays.in_use stays.since f (agrees.sound.scans o f bt) in
            scans-put h.statuses h.indexes st.sessions s e' (open-within st.sessions s e at)
            (scans-as h.statuses h.indexes e e' refl refl refl (still s e at)) still;
        tops = tops-given takes.given statuses h.statuses parent window takes.gives agrees.sound.tops;
        table = sound;
      }

-- What readers see of a session that takes ids.

with_ids-is : (xs : List ℕ) (r : relation.SeenSession) → with_ids xs r ≡ record r { own = r.own ++ xs; saved = saved_with_each xs r.saved }
with_ids-is [] r = rw (append-nil r.own) refl
with_ids-is (x ∷ xs) r = with_ids-is xs (with_id (length xs) x r) ∙ ap (λ ids. record r { own = ids; saved = saved_with_each (x ∷ xs) r.saved }) (append_assoc r.own (x ∷ []) xs)

module _ (st : State) (w : World) (v : Window) (s : ℕ) (e : Session) (own : Own) (x : ℕ) (at : session_at st s ≡ Some e) (takes : TakesIds st.heap.statuses v e.own own x) (window : IsWindow v) (agrees : Agrees st w) where
  pub reader-taken : reader_of (with_own e own) ≡ with_ids takes.given (reader_of e)
  reader-taken = rw (takes.ids, takes.saved) (sym (with_ids-is takes.given (reader_of e)))

  only-taken : OnlyIs (seen st).session (λ o. option_map reader_of (open_at (set st.sessions s (Some (with_own e own))) o)) s (Some (with_ids takes.given (reader_of e)))
  only-taken = let only = only-set st s (Some (with_own e own)) (open-within st.sessions s e at) in
      record { others = only.others; itself = only.itself ∙ ap Some reader-taken }

  pub gives-each : GivesEach (state_of st.heap.statuses) takes.given (state_of v)
  gives-each = GivesEach-from takes.given st.heap.statuses v (current_xid e.own.ids e.own.saved) takes.gives window

  pub same-sights : SameSights (seen st) (λ sn y. Sees sn v y)
  same-sights snap kept = SameSight-given snap takes.given st.heap.statuses v (current_xid e.own.ids e.own.saved) takes.gives window

  pub are-unseen : AreUnseen (seen st) (λ sn y. Sees sn v y) takes.given
  are-unseen y among snap kept = let k = kept-at st snap kept in
      unseen-given takes.given st.heap.statuses v v (current_xid e.own.ids e.own.saved) snap y takes.gives window ((agrees.sound.sessions k.0 k.1 k.2).snapshot snap k.3).bounds among

  -- the pages may have been pruned before
  pub found-given : (slots : List (List Slot)) → theory.HeapAgrees (seen_in slots st.heap.statuses st.sessions) w → theory.HeapAgrees (seen_in slots v (set st.sessions s (Some (with_own e own)))) w
  found-given slots found = Agrees-give_each takes.given (seen_in slots st.heap.statuses st.sessions) w s (reader_of e) (state_of v) (λ sn y. Sees sn v y)
      (λ o. option_map reader_of (open_at (set st.sessions s (Some (with_own e own))) o)) only-taken (reader-is st s e at) gives-each same-sights are-unseen found

  -- its reader then, and the id is its newest
  pub reader-now : option_map reader_of (open_at (set st.sessions s (Some (with_own e own))) s) ≡ Some (reader_of (with_own e own))
  reader-now = ap (option_map reader_of) (open-set_same st.sessions s (Some (with_own e own)) (open-within st.sessions s e at))

  pub current-now : IsCurrent (reader_of (with_own e own)) x
  current-now = current-taken st.heap.statuses v e own x window takes
      (λ y mine. (active-to st.heap.statuses y ((agrees.found.opened s (reader_of e) (reader-is st s e at)).2.own_active y mine)).is_given) (agrees.sound.sessions s e at)

-- The engine keeps what its type keeps of own ids.

pub keeps-wrote : (xs : List (Option Session)) (w v : Window) (s : ℕ) (e e' : Session) (x : ℕ) → open_at xs s ≡ Some e → TakesIds w v e.own e'.own x → IsWindow v → EngineKeeps xs w → EngineKeeps (set xs s (Some e')) v
keeps-wrote xs w v s e e' x at takes window k = record {
  count = length-set xs s (Some e') ∙ k.count;
  own = keep-given xs w v s e e' takes.given (current_xid e.own.ids e.own.saved) at takes.ids window takes.gives k.own;
}

pub keeps-kept : (xs : List (Option Session)) (w v : Window) (s : ℕ) (e : Session) (own : Own) → open_at xs s ≡ Some e → SameOwn e.own own → SameIds w v → EngineKeeps xs w → EngineKeeps (set xs s (Some (with_own e own))) v
keeps-kept xs w v s e own at same ids k = record {
  count = length-set xs s (Some (with_own e own)) ∙ k.count;
  own = rw (spared-is w v ids) (spared-own (set xs s (Some (with_own e own))) w v.spare (keep-same xs w s e (with_own e own) at same.ids k.own));
}
  where
    spared-own : (xs : List (Option Session)) (w : Window) (k : ℕ) → OwnIdsKeep xs w → OwnIdsKeep xs (spared w k)
    spared-own xs w k h = record { active = λ s e x at own. let a = h.active s e x at own in record { is_given = a.is_given; unfinished = a.unfinished }; distinct = h.distinct; apart = h.apart; owned = λ x active. h.owned x (record { is_given = active.is_given; unfinished = active.unfinished }) }
