-- An index by a column is made, or it is refused: the engine follows the history.
use Rattle.std.proofs.Common.{◌≡◌, ◌≢◌, ℕ, suc, ◌<◌, List, ◌∷◌, Option, Some, None, Bool, true, false, refl, sym, ap, ◌∙◌, subst, ◌⊎◌, inl, inr, arith}
use Rattle.std.specs.Prelude.{◌↔◌, ◌==◌, IsSome, Contains, is_some, if◌then◌else◌}
use Rattle.std.specs.Option.{option_map}
use Rattle.std.proofs.lemmas.Bool.{cases_eq}
use Rattle.xid_circle.proofs.Members.{Contains-none}
use Rattle.commit_status.specs.declared.status.Status.{Status}
use Rattle.tuple_header.specs.declared.version.TheConstants.{COLUMNS}
use Rattle.commit_status.specs.Window.{Window, IsActive, place, status_of, next_id}
use Rattle.snapshot.specs.Snap.{Snap, earliest}
use Rattle.visibility.proofs.Makers.{is-inserter, active-from}
use Rattle.visibility.specs.Seeing.{made_by}
use Rattle.root_index.specs.View.{IndexView}
use Rattle.index_entries.specs.declared.entry.Entry.{Entry}
use Rattle.table_indexes.specs.Indexes.{index_at, entries_at, entries_of, since_at, IsInUse}
use Rattle.heap_write.specs.Heap.{HeapView, slots_of}
use Rattle.table_integrity.specs.Making.{AllHaveEnded}
use Rattle.table_integrity.proofs.Making.{made-sound, made-led, made-since}
use Rattle.history.specs.World.{World, Isolation, by_snapshot, by_statement, LacksIndex}
use Rattle.history.specs.Moves.{is_repeatable_read, is_open_by_snapshot, with_made_index, with_index_on}
use Rattle.history.proofs.HistoryLemmas.{at_same, at_other}
use Rattle.calls.specs.declared.step.Step.TheVariants as step
use Rattle.calls.specs.declared.reply.Reply.TheVariants as reply
use Rattle.calls.specs.declared.reply.Refusal.{Refusal}
use Rattle.calls.specs.declared.reply.Refusal.TheVariants as refusal
use Rattle.calls.specs.declared.settings.Settings.{Settings}
use Rattle.refinement.specs.Allowed.{Allows}
use Rattle.refinement.specs.Heap as relation
use Rattle.refinement.specs.Agrees as theory
use Rattle.refinement.proofs.Follows.{Agrees-sessions}
use Rattle.refinement.proofs.FollowsIndexes as indexes
use Rattle.sessions.specs.declared.session.Session.{Session}
use Rattle.sessions.specs.declared.session.SessionIsolation.{SessionIsolation}
use Rattle.sessions.specs.declared.session.SessionIsolation.TheVariants.{BySnapshot, ByStatement}
use Rattle.session_steps.specs.State.{State, engine_index, session_at, seen, seen_in, reader_of, isolation_seen, horizon_of}
use Rattle.sessions.specs.Session.{kept_by, reads_by_snapshot, is_too_new, held_back}
use Rattle.sessions.specs.Places.{open_at}
use Rattle.sound_entries.specs.Since.{MayScanSince}
use Rattle.session_steps.specs.Agrees.{Agrees, Sound, SessionKeeps, SessionScans, KeepsAllTargets, NameIds, WrittenAgrees}
use Rattle.session_steps.specs.Making.{LacksIndexOn, SomeoneHasId, MakesIndexOn, HasOrMakes, RefusesIndexOn}
use Rattle.sessions.specs.Marks.{MarksSession}
use Rattle.session_steps.proofs.Owns.{reader-at, reader-is}
use Rattle.session_steps.proofs.WrittenLemmas.{someone-written, nobody-written}
use Rattle.session_steps.proofs.Marking.{marked-at, place-reads, held-marked}
use Rattle.session_steps.proofs.CursorSteps.{not-used, absent}
use Rattle.session_steps.proofs.Follows.{led-same}

-- one of two, by whether a number is another
abbrev if_is : ℕ → ℕ → Bool → Bool → Bool
if_is n number yes' no' = if n == number then yes' else no'

-- both read by snapshot, or neither does
same-isolation : (i : SessionIsolation) (m : Isolation) → theory.IsSameIsolation (isolation_seen i) m → is_repeatable_read m ≡ reads_by_snapshot i
same-isolation (BySnapshot snap) (by_snapshot start) same = refl
same-isolation (BySnapshot snap) by_statement same = absurd same
same-isolation (ByStatement kept) (by_snapshot start) same = absurd same
same-isolation (ByStatement kept) by_statement same = refl

-- An index that is there is in use.

there-used : (o : Option IndexView) → IsSome o → IsSome (entries_of o)
there-used None some = absurd (let e : IsSome {T = IndexView} None = some in cc)
there-used (Some index) some = refl

some-used : (o : Option (List Entry)) (entries : List Entry) → o ≡ Some entries → IsSome o
some-used o entries is = ap is_some is

-- What no open session has.

pub given-from : (o : Option ℕ) (s : Status) → IsSome (option_map (λ _. s) o) → IsSome o
given-from None s some = absurd (cc some)
given-from (Some i) s some = refl

module _ (st : State) (w : World) (none : ¬ SomeoneHasId st) (agrees : Agrees st w) where
  no-active : (x : ℕ) → ¬ IsActive st.heap.statuses x
  no-active x active =
      let by = agrees.found.owned x (active-from st.heap.statuses x active) in
      let e = reader-at st by.0 by.1 by.2 in
      none (by.0, e.0, e.1, λ no. Contains-none x (subst (λ ids. Contains ids x) no (subst (λ (r : relation.SeenSession). Contains r.own x) (sym e.2) by.3)))

  all-ended : AllHaveEnded st.heap
  all-ended = record {
    window = agrees.sound.window;
    ended = no-active;
    makers = λ p t at thawed. given-from (place st.heap.statuses t.header.xmin.0) (status_of st.heap.statuses t.header.xmin.0)
        (agrees.found.given p t.header.xmin.0 t at (made_by (is-inserter t.header t.header.xmin.0 thawed refl)));
  }

-- It is made.

pub made-horizon : (st st' : State) (c : ℕ) → MakesIndexOn st st' c → horizon_of st' ≡ horizon_of st
made-horizon st st' c makes = ap (λ (g : HeapView). earliest (next_id g.statuses) (held_back st'.sessions)) makes.heap.is
    ∙ ap (λ back. earliest (next_id st.heap.statuses) back) (held-marked (suc c) st.sessions st'.sessions makes.sessions.count makes.sessions.each)

module _ (st st' : State) (w : World) (c : ℕ) (lacks : LacksIndexOn st c) (none : ¬ SomeoneHasId st) (makes : MakesIndexOn st st' c) (agrees : Agrees st w) where
  ids-stay : st'.heap.statuses ≡ st.heap.statuses
  ids-stay = ap (λ (g : HeapView). g.statuses) makes.heap.is

  was : (s : ℕ) (now : Session) → session_at st' s ≡ Some now → (e : Session) × (session_at st s ≡ Some e) × MarksSession (suc c) e now
  was s now at = marked-at (suc c) st.sessions st'.sessions makes.sessions s now at

  other-used : (n : ℕ) → n ≢ suc c → IsInUse st.heap.indexes n → IsInUse st'.heap.indexes n
  other-used n ne used = subst (λ (o : Option (List Entry)). IsSome o) (sym (makes.heap.others n ne)) used

  used-other : (n : ℕ) → n ≢ suc c → IsInUse st'.heap.indexes n → IsInUse st.heap.indexes n
  used-other n ne used = subst (λ (o : Option (List Entry)). IsSome o) (makes.heap.others n ne) used

  -- which was not in use
  in-use-ne : (n : ℕ) → IsInUse st.heap.indexes n → n ≢ suc c
  in-use-ne n used same = not-used (suc c) st.heap.indexes lacks.1 (subst (IsInUse st.heap.indexes) same used)

  found-made : theory.HeapAgrees (seen st') w
  found-made =
      let slots : slots_of st'.heap ≡ slots_of st.heap = ap (λ (g : HeapView). slots_of g) makes.heap.is in
      subst (λ t. theory.HeapAgrees (seen_in (slots_of st'.heap) t st'.sessions) w) (sym ids-stay)
      (subst (λ slots. theory.HeapAgrees (seen_in slots st.heap.statuses st'.sessions) w) (sym slots)
      (Agrees-sessions (seen st) w (λ o. option_map reader_of (open_at st'.sessions o)) (λ o. place-reads (suc c) (open_at st.sessions o) (open_at st'.sessions o) (makes.sessions.each o)) agrees.found))

  scans-made : (s : ℕ) (now : Session) → session_at st' s ≡ Some now → SessionScans st.heap.statuses st'.heap.indexes now
  scans-made s now at =
      let e = was s now at in
      let scans = agrees.sound.scans s e.0 e.1 in
      record {
        by_snapshot = λ n snap reads may. by n snap (cases_eq n (suc c)) (sym (ap (λ (f : Session). f.isolation) e.2.is) ∙ reads) may;
        cursor = λ span is.
            let old = scans.cursor span (sym (ap (λ (f : Session). f.cursor) e.2.is) ∙ is) in
            let ne = in-use-ne span.index old.0 in (
              other-used span.index ne old.0,
              λ snap kept. subst (λ (since : Option ℕ). MayScanSince st.heap.statuses since snap) (sym (makes.heap.others_since span.index ne)) (old.1 snap (sym (ap (λ (f : Session). kept_by f.isolation) e.2.is) ∙ kept)),
            );
      }
    where
      by : (n : ℕ) (snap : Snap) → (n ≡ suc c) ⊎ (n ≢ suc c) → (was s now at).0.isolation ≡ BySnapshot snap → is_too_new now n ≡ false → MayScanSince st.heap.statuses (since_at st'.heap.indexes n) snap
      by n snap (inl same) reads may =
          let e = was s now at in
          let marked : is_too_new now n ≡ true = e.2.marks n ∙ (ap (λ i. if_is i (suc c) (reads_by_snapshot e.0.isolation) (is_too_new e.0 n)) same ∙ (at_same (suc c) (reads_by_snapshot e.0.isolation) (is_too_new e.0 n) ∙ ap reads_by_snapshot reads)) in
          absurd (let f : false ≡ true = sym may ∙ marked in cc)
      by n snap (inr ne) reads may =
          let e = was s now at in
          let kept : is_too_new e.0 n ≡ false = sym (e.2.marks n ∙ at_other n (suc c) (reads_by_snapshot e.0.isolation) (is_too_new e.0 n) ne) ∙ may in
          subst (λ (since : Option ℕ). MayScanSince st.heap.statuses since snap) (sym (makes.heap.others_since n ne)) ((agrees.sound.scans s e.0 e.1).by_snapshot n snap reads kept)

  keeps-made : (s : ℕ) (now : Session) → session_at st' s ≡ Some now → SessionKeeps st.heap.statuses now
  keeps-made s now at =
      let e = was s now at in
      let h = agrees.sound.sessions s e.0 e.1 in
      subst (SessionKeeps st.heap.statuses) (sym e.2.is) (record { snapshot = h.snapshot; for_cursor = h.for_cursor; topmost = h.topmost; prefixes = h.prefixes; distinct = h.distinct })

  sound-made : Sound st'
  sound-made = record {
    count = makes.sessions.count ∙ agrees.sound.count;
    max_pages = ap (λ (g : HeapView). g.max_pages) makes.heap.is ∙ (agrees.sound.max_pages ∙ ap (λ (g : Settings). g.max_pages) (sym makes.settings));
    stop_age = ap (λ (t : Window). t.stop_age) ids-stay ∙ (agrees.sound.stop_age ∙ ap (λ (g : Settings). g.stop_age) (sym makes.settings));
    window = rw ids-stay agrees.sound.window;
    sessions = λ s now at. rw ids-stay (keeps-made s now at);
    tops = rw ids-stay agrees.sound.tops;
    by_key = other-used 0 (λ same. absurd (omega (arith, same))) agrees.sound.by_key;
    since = made-since st.heap st'.heap c (all-ended st w none agrees) makes.heap agrees.sound.since;
    scans = λ s now at. subst (λ t. SessionScans t st'.heap.indexes now) (sym ids-stay) (scans-made s now at);
    table = made-sound st.heap st'.heap c agrees.sound.table (all-ended st w none agrees) makes.heap;
  }

  -- the history's marks are those of the sessions
  marks-made : (s : ℕ) (now : Session) → session_at st' s ≡ Some now → (n : ℕ) → (with_made_index w (suc c)).too_new s n ≡ is_too_new now n
  marks-made s now at n =
      let e = was s now at in
      let m = agrees.found.opened s (reader_of e.0) (reader-is st s e.0 e.1) in
      let both : is_open_by_snapshot (w.session s) ≡ reads_by_snapshot e.0.isolation = ap is_open_by_snapshot m.1 ∙ same-isolation e.0.isolation m.0.isolation m.2.isolation in
      ap (λ b. if_is n (suc c) b (w.too_new s n)) both ∙ (ap (λ b. if_is n (suc c) (reads_by_snapshot e.0.isolation) b) (agrees.scans s e.0 e.1 n) ∙ sym (e.2.marks n))

  lacks-index : w.has_index (suc c) ≡ false
  lacks-index = absent (w.has_index (suc c)) (λ has. not-used (suc c) st.heap.indexes lacks.1 ((agrees.indexes (suc c)).1 has))

  indexes-made : (n : ℕ) → IsInUse st'.heap.indexes n ↔ ((with_made_index w (suc c)).has_index n ≡ true)
  indexes-made n = elim (cases_eq n (suc c)) [
    | inl same ↦ (
      λ used. ap (λ i. if_is i (suc c) true (w.has_index i)) same ∙ at_same (suc c) true (w.has_index (suc c)),
      λ has. subst (IsInUse st'.heap.indexes) (sym same) (some-used (entries_at st'.heap.indexes (suc c)) makes.heap.entries makes.heap.made),
    )
    | inr ne ↦ (
      λ used. at_other n (suc c) true (w.has_index n) ne ∙ (agrees.indexes n).0 (used-other n ne used),
      λ has. other-used n ne ((agrees.indexes n).1 (sym (at_other n (suc c) true (w.has_index n) ne) ∙ has)),
    )
  ]

  -- and the sessions have their ids
  written-made : WrittenAgrees st' (with_made_index w (suc c))
  written-made s now m at there =
      let e = was s now at in
      subst (λ (f : Session). NameIds m.has_written (f.own.ids ∷ f.own.saved)) (sym e.2.is) (agrees.written s e.0 m e.1 there)

  pub follows-made : w.has_vacuum ≡ false → Allows w (step.CreateIndex c) reply.Done × Agrees st' (with_index_on w c) × KeepsAllTargets st st'
  follows-made idle =
      let f = indexes.Follows-create_index (seen st') c lacks.0 w (λ absent_. (nobody-written st w none agrees, idle)) found-made in
      let is : with_index_on w c ≡ with_made_index w (suc c) = ap (λ b. if b then w else with_made_index w (suc c)) lacks-index in (
        f.0,
        subst (Agrees st') (sym is) (record { found = subst (theory.HeapAgrees (seen st')) is f.1; indexes = indexes-made; scans = marks-made; written = written-made; sound = sound-made }),
        made-led st.heap st'.heap c agrees.sound.table makes.heap,
      )

-- Or it is there.

follows-there : (st : State) (w : World) (c : ℕ) → c < COLUMNS → IsSome (engine_index st (suc c)) → Agrees st w → Allows w (step.CreateIndex c) reply.Done × Agrees st (with_index_on w c) × KeepsAllTargets st st
follows-there st w c within there agrees =
    let has : w.has_index (suc c) ≡ true = (agrees.indexes (suc c)).0 (there-used (index_at st.heap.indexes (suc c)) there) in
    let f = indexes.Follows-create_index (seen st) c within w (λ lacks. absurd (let e : true ≡ false = sym has ∙ lacks in cc)) agrees.found in
    let is : with_index_on w c ≡ w = ap (λ b. if b then w else with_made_index w (suc c)) has in
    (f.0, subst (Agrees st) (sym is) agrees, led-same st w agrees)

-- where it is not there, no vacuum runs
pub follows-has_or_makes : (st st' : State) (w : World) (c : ℕ) → HasOrMakes st st' c → (LacksIndexOn st c → w.has_vacuum ≡ false) → Agrees st w
    → Allows w (step.CreateIndex c) reply.Done × Agrees st' (with_index_on w c) × KeepsAllTargets st st'
follows-has_or_makes st st' w c (HasOrMakes.has within there is) idle agrees =
    subst (λ new. Allows w (step.CreateIndex c) reply.Done × Agrees new (with_index_on w c) × KeepsAllTargets st new) (sym is) (follows-there st w c within there agrees)
follows-has_or_makes st st' w c (HasOrMakes.makes lacks none makes) idle agrees = follows-made st st' w c lacks none makes agrees (idle lacks)

-- It is not made.

lacks-in : (st : State) (w : World) (c : ℕ) → LacksIndexOn st c → Agrees st w → LacksIndex w c
lacks-in st w c lacks agrees = (lacks.0, absent (w.has_index (suc c)) (λ has. not-used (suc c) st.heap.indexes lacks.1 ((agrees.indexes (suc c)).1 has)))

pub allows-barred_making : (st : State) (w : World) (c : ℕ) → LacksIndexOn st c → w.has_vacuum ≡ true → Agrees st w → Allows w (step.CreateIndex c) (reply.Refused refusal.VacuumRunning)
allows-barred_making st w c lacks runs agrees = (lacks-in st w c lacks agrees, runs)

pub allows-refused_making : (st : State) (w : World) (c : ℕ) (r : Refusal) → RefusesIndexOn st c r → w.has_vacuum ≡ false → Agrees st w → Allows w (step.CreateIndex c) (reply.Refused r)
allows-refused_making st w c refusal.NoSuchIndex over idle agrees = over
allows-refused_making st w c refusal.IndexBusy refuses idle agrees = (lacks-in st w c refuses.0 agrees, idle, someone-written st w refuses.1 agrees)
allows-refused_making st w c refusal.NoMemory refuses idle agrees = (lacks-in st w c refuses.0 agrees, idle, nobody-written st w refuses.1 agrees)
allows-refused_making st w c _ refuses idle agrees = absurd refuses
