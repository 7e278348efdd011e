-- A write follows the history: it is done, or it is refused for want of an id, of room or of memory.
use Rattle.std.proofs.Common.{◌≡◌, ◌⊎◌, ℕ, set, Option, Some, None, false, refl, sym, ap, ◌∙◌, subst, inl, inr}
use Rattle.std.specs.Prelude.{Result, Ok, Err}
use Rattle.xid_circle.specs.declared.Tid.{Tid}
use Rattle.tuple_header.specs.declared.version.Row.{Row}
use Rattle.tuple_header.specs.Version.{Version, rounded_size_of}
use Rattle.commit_status.specs.Window.{Window, IsWindow, IsActive}
use Rattle.snapshot.specs.Own.{Own}
use Rattle.snapshot.specs.Snap.{Sees}
use Rattle.visibility.proofs.Makers.{active-to}
use Rattle.index_lookup.specs.Pages.{version_in}
use Rattle.heap_write.specs.declared.heap.WriteFault.{WriteFault}
use Rattle.heap_write.specs.declared.heap.WriteFault.TheVariants as fault
use Rattle.heap_write.specs.Heap.{HeapView, Keeps, slots_of}
use Rattle.write_ids.specs.Ids.{SameIds, SameOwn, TakesIds}
use Rattle.heap_write.specs.Writes.{PrunesIfFull, Inserts, Updates, Deletes}
use Rattle.heap_write.specs.Refusals.{FindsNoRoom}
use Rattle.heap_write.proofs.PageLemmas.{slots-kept}
use Rattle.table_integrity.proofs.Places.{readies-stand, root-new, root_version, free_place, taken_version, inserts-stand, deletes-stand, updates-ready, updates-stand}
use Rattle.table_integrity.proofs.Keeping.{kept-stays, readied-stays, ready-come, given-stays}
use Rattle.table_integrity.proofs.InUse.{stays-then}
use Rattle.table_integrity.proofs.Writing.{inserted-stays, updated-stays, deleted-stays}
use Rattle.history.specs.World.{World, OpenSession}
use Rattle.calls.specs.declared.step.Step.TheVariants as step
use Rattle.calls.specs.declared.reply.Reply.{Reply}
use Rattle.calls.specs.declared.reply.Reply.TheVariants as reply
use Rattle.calls.specs.Words.{RowToWrite, FitsRow, row_of}
use Rattle.calls.specs.Writes.{WriteStep, inserts, updates, deletes, step_of, key_of, Asks}
use Rattle.refinement.specs.Allowed.{Allows, next, after_refused_write}
use Rattle.refinement.specs.Visible.{ReaderSees}
use Rattle.refinement.specs.Agrees as theory
use Rattle.refinement.specs.Heap as relation
use Rattle.refinement.specs.Finds.{Free, HeapFollows}
use Rattle.refinement.proofs.Follows as follows
use Rattle.refinement.proofs.Hindrances as hindrances
use Rattle.refinement.proofs.GivenBelow.{visible_given_each}
use Rattle.refinement.proofs.FollowsWrites.{insert_done, update_done, delete_done}
use Rattle.refinement.proofs.Runs.{KeepsScans, unmade, same_indexes}
use Rattle.sessions.specs.declared.session.Session.{Session}
use Rattle.visibility.specs.Visible.{state_of}
use Rattle.session_steps.specs.State.{State, session_at, put_session, seen, seen_in, reader_of, isolation_seen, horizon_of}
use Rattle.history.specs.Moves.{with_write as writing}
use Rattle.session_steps.specs.Agrees.{Agrees, Follows, KeepsAllTargets, WrittenAgrees}
use Rattle.session_steps.specs.Tests.{MayAct, MayTry}
use Rattle.session_steps.specs.Writes.{DoesWrite, FailsWrite, TriesWrite, refusal_for, reply_for}
use Rattle.session_steps.specs.Exact.{WriteTried, ExactWrite, AnswersStep}
use Rattle.session_steps.proofs.InUse.{marks-put, agree}
use Rattle.session_steps.proofs.StateLemmas.{with_own}
use Rattle.session_steps.proofs.Owns.{reader-is}
use Rattle.session_steps.proofs.WrittenLemmas.{written-put, written-by, written-kept}
use Rattle.session_steps.proofs.Searches.{IsTarget, begins-none, free-with}
use Rattle.session_steps.proofs.Changing.{change-target, change-free}
use Rattle.session_steps.proofs.Follows.{no_making}
use Rattle.session_steps.proofs.Cleaned.{removes-past}
use Rattle.session_steps.proofs.Giving.{with_write, found-kept, reader-taken, gives-each, same-sights, are-unseen, found-given, reader-now, current-now, Sound-kept, Sound-given}
use Rattle.session_steps.proofs.Placing.{adds-from, alters-from, is-new, is-deleted, is-writer, may-take}

-- What became of a write.

-- it takes ids, whatever is written
pub takes-ids : (write : WriteStep) (place : Tid) (horizon : ℕ) (h h' : HeapView) (own own' : Own) (x : ℕ) → DoesWrite write place horizon h h' own own' x → TakesIds h.statuses h'.statuses own own' x
takes-ids (inserts row) place horizon h h' own own' x does = does.takes_ids
takes-ids (updates row) place horizon h h' own own' x does = does.takes_ids
takes-ids (deletes key) place horizon h h' own own' x does = does.takes_ids

-- or it fails, and all is as it was; but where an update finds no room, the page of the old version may have been pruned
pub fails-so : (write : WriteStep) (place : Tid) (horizon : ℕ) (h h' : HeapView) (own : Own) (f : WriteFault) → FailsWrite write place horizon h h' own f → Keeps h h' ⊎ ((size : ℕ) × FindsNoRoom h h' own place horizon size)
fails-so (inserts row) place horizon h h' own f fails = inl fails.1
fails-so (updates row) place horizon h h' own fault.NeedsFreeze fails = inl fails.1
fails-so (updates row) place horizon h h' own fault.NoRoom fails = inr (rounded_size_of (row_of row), fails)
fails-so (updates row) place horizon h h' own fault.NoMemory fails = inl fails.2
fails-so (deletes key) place horizon h h' own fault.NeedsFreeze fails = inl fails.1
fails-so (deletes key) place horizon h h' own fault.NoRoom fails = absurd fails
fails-so (deletes key) place horizon h h' own fault.NoMemory fails = inl fails.2

-- only who puts a row asks for room
puts-row : (write : WriteStep) (place : Tid) (horizon : ℕ) (h h' : HeapView) (own : Own) → FailsWrite write place horizon h h' own fault.NoRoom → hindrances.IsPut write
puts-row (inserts row) place horizon h h' own fails = tt
puts-row (updates row) place horizon h h' own fails = tt
puts-row (deletes key) place horizon h h' own fails = absurd fails

-- its row, if it puts one, is not too large
abbrev pub Fits : WriteStep → Type 0
Fits (inserts row) = FitsRow row
Fits (updates row) = FitsRow row
Fits (deletes key) = Unit {0}

-- the answer to a write is that to its step
pub answers-write : (st : State) (s : ℕ) (write : WriteStep) (r : Reply) (st' : State) → Follows st (step_of s write) r st' → ExactWrite st s write r st' → AnswersStep st (step_of s write) r st'
answers-write st s (inserts row) r st' follows exact = record { follows = follows; exact = exact }
answers-write st s (updates row) r st' follows exact = record { follows = follows; exact = exact }
answers-write st s (deletes key) r st' follows exact = record { follows = follows; exact = exact }

-- What the tests have found.

-- nothing keeps the session from the write, and what it reads of the key is what the write asks for
pub free-to : (st : State) (w : World) (s : ℕ) (e : Session) (write : WriteStep) (place : Tid) → MayAct st s e → MayTry st e write place → Fits write → Agrees st w
    → (found : Option Row) × Free (seen st) s (reader_of e) (key_of write) found × Asks write found
free-to st w s e (inserts row) place acts may fits agrees = (None, free-with st w s e row.key None agrees (begins-none st w s e row.key agrees acts may.0) may.1, (fits, refl))
free-to st w s e (updates row) place acts may fits agrees =
    let target = change-target st w s e row.key place acts may agrees in (Some target.0.row, change-free st w s e row.key place target.0 acts agrees target.1 may, (fits, refl))
free-to st w s e (deletes key) place acts may fits agrees =
    let target = change-target st w s e key place acts may agrees in (Some target.0.row, change-free st w s e key place target.0 acts agrees target.1 may, refl)

-- the id under which it wrote is in progress
now-active : (st : State) (w : World) (s : ℕ) (e : Session) (own : Own) (x : ℕ) → session_at st s ≡ Some e → Agrees st w → {v : Window} → TakesIds st.heap.statuses v e.own own x → IsWindow v → IsActive v x
now-active st w s e own x at agrees {v} takes window =
    (given-stays st.heap v e.own own x agrees.sound.table agrees.sound.window window
    (λ y mine. active-to st.heap.statuses y ((agrees.found.opened s (reader_of e) (reader-is st s e at)).2.own_active y mine)) takes).1

-- Where it fails, the world is as it was, but that the session waits for nobody.

stays-fault : (w : World) (s : ℕ) (f : WriteFault) → (after_refused_write w s (refusal_for f)).session ≡ w.session
stays-fault w s fault.NeedsFreeze = refl
stays-fault w s fault.NoRoom = refl
stays-fault w s fault.NoMemory = refl

fault-stays : (w : World) (s : ℕ) (write : WriteStep) (f : WriteFault) → (next w (step_of s write) (reply_for (Err f))).session ≡ w.session
fault-stays w s (inserts row) f = stays-fault w s f
fault-stays w s (updates row) f = stays-fault w s f
fault-stays w s (deletes key) f = stays-fault w s f

-- All is as it was.

module _ (st : State) (w : World) (s : ℕ) (e : Session) (own : Own) (at : session_at st s ≡ Some e) (agrees : Agrees st w) (same : SameOwn e.own own) where
  abbrev e' : Session
  e' = with_own e own

  -- it has written as before
  kept-written : (w' : World) → w'.session ≡ w.session → WrittenAgrees (put_session st s (Some e')) w'
  kept-written w' still o f m bt there = written-kept st w s e e' at agrees same o f m bt (sym (ap (λ (open_ : ℕ → Option OpenSession). open_ o) still) ∙ there)

  kept : (h : HeapView) (w' : World) → Keeps st.heap h → KeepsScans w w' → w'.session ≡ w.session → theory.HeapAgrees (seen st) w' → Agrees (with_write st h s e') w' × KeepsAllTargets st (with_write st h s e')
  kept h w' keeps had still found =
      let stays = kept-stays st.heap h agrees.sound.table keeps in (
        agree agrees stays.in_use (marks-put st.sessions s e e' at refl) had (kept-written w' still)
            (subst (λ slots. theory.HeapAgrees (seen_in slots h.statuses (set st.sessions s (Some e'))) w') (sym (slots-kept st.heap h keeps))
            (found-kept (slots_of st.heap) st.heap.statuses h.statuses st.sessions s e own w' at same keeps.statuses found))
            (Sound-kept st w h s e own at agrees same keeps.statuses keeps.max_pages stays),
        stays.led,
      )

  -- or the page of the old version was pruned
  readied : (ready h : HeapView) (place : Tid) (size : ℕ) (w' : World) → PrunesIfFull st.heap ready place (horizon_of st) size → Keeps ready h → KeepsScans w w' → w'.session ≡ w.session → theory.HeapAgrees (seen st) w'
      → Agrees (with_write st h s e') w' × KeepsAllTargets st (with_write st h s e')
  readied ready h place size w' readies keeps had still found =
      let first = readied-stays st.heap ready place (horizon_of st) size agrees.sound.table readies in
      let second = kept-stays ready h first.sound keeps in
      let stays = stays-then st.heap ready h agrees.sound.table (ready-come st.heap ready place (horizon_of st) size readies) first second in
      let ids = same-then st.heap.statuses ready.statuses h.statuses (ready-ids readies) keeps.statuses in
      let pruned = (follows.Follows-prune (seen st) 0 (version_in (slots_of ready)) (removes-past st w (version_in (slots_of ready)) place.page agrees (readies-stand st.heap ready place (horizon_of st) size readies)) w' found).1 in (
        agree agrees stays.in_use (marks-put st.sessions s e e' at refl) had (kept-written w' still)
            (subst (λ slots. theory.HeapAgrees (seen_in slots h.statuses (set st.sessions s (Some e'))) w') (sym (slots-kept ready h keeps))
            (found-kept (slots_of ready) st.heap.statuses h.statuses st.sessions s e own w' at same ids pruned))
            (Sound-kept st w h s e own at agrees same ids (keeps.max_pages ∙ ready-limit readies) stays),
        stays.led,
      )
    where
      same-then : (a b c : Window) → SameIds a b → SameIds b c → SameIds a c
      same-then a b c f g = record { first = g.first ∙ f.first; stop_age = g.stop_age ∙ f.stop_age; entries = g.entries ∙ f.entries }

      ready-ids : PrunesIfFull st.heap ready place (horizon_of st) size → SameIds st.heap.statuses ready.statuses
      ready-ids (PrunesIfFull.has_room room is) = rw is (record { first = refl; stop_age = refl; entries = refl })
      ready-ids (PrunesIfFull.is_pruned full grown keeps prunes) = rw prunes.is keeps.statuses
      ready-ids (PrunesIfFull.is_left full goes keeps) = keeps.statuses

      ready-limit : PrunesIfFull st.heap ready place (horizon_of st) size → ready.max_pages ≡ st.heap.max_pages
      ready-limit (PrunesIfFull.has_room room is) = ap (λ (g : HeapView). g.max_pages) is
      ready-limit (PrunesIfFull.is_pruned full grown keeps prunes) = ap (λ (g : HeapView). g.max_pages) prunes.is ∙ keeps.max_pages
      ready-limit (PrunesIfFull.is_left full goes keeps) = keeps.max_pages

-- Inserts.

module _ (st : State) (w : World) (s : ℕ) (text : RowToWrite) (e : Session) (free : Free (seen st) s (reader_of e) text.key None) (fits : FitsRow text) (at : session_at st s ≡ Some e) (agrees : Agrees st w) where
  inserted : (h : HeapView) (own : Own) (x : ℕ) → Inserts st.heap h e.own own (row_of text) x → IsWindow h.statuses
      → Allows w (step.Insert s text) reply.Done × Agrees (with_write st h s (with_own e own)) (next w (step.Insert s text) reply.Done) × KeepsAllTargets st (with_write st h s (with_own e own))
  inserted h own x i window =
      let row = row_of text in
      let e' = with_own e own in
      let stays = inserted-stays st.heap h e.own own row x agrees.sound.table (is-writer st w s e h agrees at window) i in
      let new = root_version st.heap false x row i.number in
      let still = found-given st w h.statuses s e own x at i.takes_ids window agrees (slots_of st.heap) agrees.found in
      let done = insert_done (seen st) (seen_in (slots_of st.heap) h.statuses (set st.sessions s (Some e'))) w s (reader_of e) (reader_of e') text x (free_place st.heap i.number) new (version_in (slots_of h))
      free fits agrees.found still (reader-now st w h.statuses s e own x at i.takes_ids window agrees) (current-now st w h.statuses s e own x at i.takes_ids window agrees)
      (adds-from (version_in (slots_of st.heap)) (version_in (slots_of h)) (free_place st.heap i.number) new (inserts-stand st.heap h e.own own row x i)) (is-new x row new (root-new st.heap false x row i.number)) refl in (
        done.0,
        agree agrees stays.in_use (marks-put st.sessions s e e' at refl) (unmade refl refl)
            (written-put st w s e e' (writing w.history row.key (Some row)) at agrees (written-by st w h.statuses s e own x at i.takes_ids agrees)) done.1 (Sound-given st w h s e own at agrees x i.takes_ids window i.max_pages stays),
        stays.led,
      )

-- Of a version that the session reads.

module _ (st : State) (w : World) (s : ℕ) (key : ℕ) (e : Session) (place : Tid) (t : Version) (target : IsTarget st e key place t) (at : session_at st s ≡ Some e) (agrees : Agrees st w) where
  -- it still sees it when it writes
  seen-now : (v : Window) (own : Own) (x : ℕ) → TakesIds st.heap.statuses v e.own own x → IsWindow v
      → ReaderSees (state_of v) (relation.SightOfStatement (state_of v) (λ snap y. Sees snap v y) (isolation_seen e.isolation)) own.ids t
  seen-now v own x takes window =
      subst (λ (r : relation.SeenSession). ReaderSees (state_of v) (relation.SightOfStatement (state_of v) (λ snap y. Sees snap v y) r.isolation) r.own t) (sym (reader-taken st w v s e own x at takes window agrees))
      (visible_given_each takes.given (seen st) w s (reader_of e) place t (state_of v) (λ sn y. Sees sn v y) (reader-is st s e at) (gives-each st w v s e own x at takes window agrees)
      (same-sights st w v s e own x at takes window agrees) (are-unseen st w v s e own x at takes window agrees) agrees.found target.there target.seen)

-- Updates.

module _ (st : State) (w : World) (s : ℕ) (text : RowToWrite) (e : Session) (place : Tid) (t : Version) (target : IsTarget st e text.key place t) (free : Free (seen st) s (reader_of e) text.key (Some t.row))
    (fits : FitsRow text) (at : session_at st s ≡ Some e) (agrees : Agrees st w) where
  updated : (h : HeapView) (own : Own) (x : ℕ) → Updates st.heap h e.own own place (row_of text) (horizon_of st) x → IsWindow h.statuses
      → Allows w (step.Update s text) reply.Done × Agrees (with_write st h s (with_own e own)) (next w (step.Update s text) reply.Done) × KeepsAllTargets st (with_write st h s (with_own e own))
  updated h own x u window =
      let row = row_of text in
      let e' = with_own e own in
      let may = may-take st w s e text.key (Some t.row) place t agrees at free target in
      let stays = updated-stays st.heap h (horizon_of st) e.own own place t row x agrees.sound.table (is-writer st w s e h agrees at window) may (sym target.of_key) u in
      let removes = removes-past st w (version_in (slots_of u.ready)) place.page agrees (readies-stand st.heap u.ready place (horizon_of st) (rounded_size_of row) u.readies) in
      let pruned = (follows.Follows-prune (seen st) 0 (version_in (slots_of u.ready)) removes w agrees.found).1 in
      let still = found-given st w h.statuses s e own x at u.takes_ids window agrees (slots_of u.ready) pruned in
      let put = updates-stand st.heap h e.own own place row (horizon_of st) x t u target.there in
      let active = now-active st w s e own x at agrees u.takes_ids window in
      let done = update_done (seen st) (seen_in (slots_of u.ready) h.statuses (set st.sessions s (Some e'))) w s (reader_of e) (reader_of e') text (Some t.row) x place put.to t (taken_version t x put.to put.hot) put.new
      put.added (version_in (slots_of h)) free fits refl agrees.found still (reader-now st w h.statuses s e own x at u.takes_ids window agrees) (current-now st w h.statuses s e own x at u.takes_ids window agrees)
      (updates-ready st.heap h e.own own place row (horizon_of st) x t u target.there) (seen-now st w s text.key e place t target at agrees h.statuses own x u.takes_ids window) target.of_key
      (adds-from (version_in (slots_of u.ready)) put.added put.to put.new put.adds) (is-new x row put.new put.is_new) put.is_new.of_row
      (alters-from put.added (version_in (slots_of h)) place t (taken_version t x put.to put.hot) put.alters) (is-deleted h.statuses x t put.to put.hot active) in (
        done.0,
        agree agrees stays.in_use (marks-put st.sessions s e e' at refl) (unmade refl refl)
            (written-put st w s e e' (writing w.history row.key (Some row)) at agrees (written-by st w h.statuses s e own x at u.takes_ids agrees)) done.1 (Sound-given st w h s e own at agrees x u.takes_ids window u.max_pages stays),
        stays.led,
      )

-- Deletions.

module _ (st : State) (w : World) (s key : ℕ) (e : Session) (place : Tid) (t : Version) (target : IsTarget st e key place t) (free : Free (seen st) s (reader_of e) key (Some t.row))
    (at : session_at st s ≡ Some e) (agrees : Agrees st w) where
  deleted : (h : HeapView) (own : Own) (x : ℕ) → Deletes st.heap h e.own own place x → IsWindow h.statuses
      → Allows w (step.Delete s key) reply.Done × Agrees (with_write st h s (with_own e own)) (next w (step.Delete s key) reply.Done) × KeepsAllTargets st (with_write st h s (with_own e own))
  deleted h own x d window =
      let e' = with_own e own in
      let may = may-take st w s e key (Some t.row) place t agrees at free target in
      let stays = deleted-stays st.heap h e.own own place t x agrees.sound.table (is-writer st w s e h agrees at window) may d in
      let still = found-given st w h.statuses s e own x at d.takes_ids window agrees (slots_of st.heap) agrees.found in
      let alters = deletes-stand st.heap h e.own own place x t d target.there in
      let active = now-active st w s e own x at agrees d.takes_ids window in
      let done = delete_done (seen st) (seen_in (slots_of st.heap) h.statuses (set st.sessions s (Some e'))) w s (reader_of e) (reader_of e') key (Some t.row) x place t (taken_version t x place false) (version_in (slots_of h))
      free refl agrees.found still (reader-now st w h.statuses s e own x at d.takes_ids window agrees) (current-now st w h.statuses s e own x at d.takes_ids window agrees)
      (seen-now st w s key e place t target at agrees h.statuses own x d.takes_ids window) target.of_key
      (alters-from (version_in (slots_of st.heap)) (version_in (slots_of h)) place t (taken_version t x place false) alters) (is-deleted h.statuses x t place false active) in (
        done.0,
        agree agrees stays.in_use (marks-put st.sessions s e e' at refl) (unmade refl refl)
            (written-put st w s e e' (writing w.history key None) at agrees (written-by st w h.statuses s e own x at d.takes_ids agrees)) done.1 (Sound-given st w h s e own at agrees x d.takes_ids window d.max_pages stays),
        stays.led,
      )

-- All of them.

module _ (st : State) (w : World) (s : ℕ) (e : Session) (own : Own) (write : WriteStep) (place : Tid) (acts : MayAct st s e) (may : MayTry st e write place) (fits : Fits write) (agrees : Agrees st w) (h : HeapView) where
  abbrev Goes : Reply → Type 0
  Goes r = Allows w (step_of s write) r × Agrees (with_write st h s (with_own e own)) (next w (step_of s write) r) × KeepsAllTargets st (with_write st h s (with_own e own))

  follows-fault : (f : WriteFault) → FailsWrite write place (horizon_of st) st.heap h e.own f → HeapFollows (seen st) (step_of s write) (reply_for (Err f)) (seen st)
  follows-fault fault.NeedsFreeze fails = let free = free-to st w s e write place acts may fits agrees in hindrances.Follows-needs_freeze (seen st) s (reader_of e) write free.0 free.1 free.2
  follows-fault fault.NoRoom fails =
      let free = free-to st w s e write place acts may fits agrees in
      hindrances.Follows-no_room (seen st) s (reader_of e) write free.0 free.1 free.2 (puts-row write place (horizon_of st) st.heap h e.own fails)
  follows-fault fault.NoMemory fails = let free = free-to st w s e write place acts may fits agrees in hindrances.Follows-no_memory (seen st) s (reader_of e) write free.0 free.1 free.2

  write-fails : (f : WriteFault) → SameOwn e.own own → FailsWrite write place (horizon_of st) st.heap h e.own f → Goes (reply_for (Err f))
  write-fails f same fails =
      let follows = follows-fault f fails w agrees.found in
      let after = next w (step_of s write) (reply_for (Err f)) in
      let had = same_indexes w (step_of s write) (reply_for (Err f)) (no_making s write) follows.0 in
      let still = fault-stays w s write f in
      let k : Agrees (with_write st h s (with_own e own)) after × KeepsAllTargets st (with_write st h s (with_own e own)) = elim (fails-so write place (horizon_of st) st.heap h e.own f fails) [
        | inl keeps ↦ kept st w s e own acts.1 agrees same h after keeps had still follows.1
        | inr full ↦ readied st w s e own acts.1 agrees same full.1.ready h place full.0 after full.1.readies full.1.keeps had still follows.1
      ] in
      (follows.0, k.0, k.1)

done : (st : State) (w : World) (s : ℕ) (e : Session) (own : Own) (write : WriteStep) (place : Tid) (acts : MayAct st s e) (may : MayTry st e write place) (fits : Fits write) (agrees : Agrees st w) (h : HeapView) (x : ℕ)
    → DoesWrite write place (horizon_of st) st.heap h e.own own x → IsWindow h.statuses → Goes st w s e own write place acts may fits agrees h reply.Done
done st w s e own (inserts row) place acts may fits agrees h x does window =
    inserted st w s row e (free-with st w s e row.key None agrees (begins-none st w s e row.key agrees acts may.0) may.1) fits acts.1 agrees h own x does window
done st w s e own (updates row) place acts may fits agrees h x does window =
    let target = change-target st w s e row.key place acts may agrees in
    updated st w s row e place target.0 target.1 (change-free st w s e row.key place target.0 acts agrees target.1 may) fits acts.1 agrees h own x does window
done st w s e own (deletes key) place acts may fits agrees h x does window =
    let target = change-target st w s e key place acts may agrees in
    deleted st w s key e place target.0 target.1 (change-free st w s e key place target.0 acts agrees target.1 may) acts.1 agrees h own x does window

tries : (st : State) (w : World) (s : ℕ) (e : Session) (own : Own) (write : WriteStep) (place : Tid) (acts : MayAct st s e) (may : MayTry st e write place) (fits : Fits write) (agrees : Agrees st w) (h : HeapView)
    (r : Result (Unit {0}) WriteFault) → TriesWrite write place (horizon_of st) st.heap h e.own own r → IsWindow h.statuses → Goes st w s e own write place acts may fits agrees h (reply_for r)
tries st w s e own write place acts may fits agrees h (Ok u) tried window = done st w s e own write place acts may fits agrees h tried.0 tried.1 window
tries st w s e own write place acts may fits agrees h (Err f) tried window = write-fails st w s e own write place acts may fits agrees h f tried.0 tried.1

pub Follows-tried : (st st' : State) (s : ℕ) (write : WriteStep) (r : Result (Unit {0}) WriteFault) → WriteTried st st' s write r → Fits write → IsWindow st'.heap.statuses → Follows st (step_of s write) (reply_for r) st'
Follows-tried st st' s write r tried fits window w agrees =
    subst (λ new. Allows w (step_of s write) (reply_for r) × Agrees new (next w (step_of s write) (reply_for r)) × KeepsAllTargets st new) (sym tried.is)
    (tries st w s tried.session tried.own write tried.place tried.acts tried.may fits agrees st'.heap r tried.tried window)
