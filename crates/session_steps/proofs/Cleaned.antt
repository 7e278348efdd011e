-- A page is pruned, and no session can tell.
use Rattle.visibility.proofs.Makers.{is-inserter, is-deleter, inserter-is, deleter-is, state-is, state-some, committed-from, active-to}
use Rattle.refinement.proofs.Runs.{unmade}
use Rattle.sound_entries.specs.Since.{IsExactSince}
use Rattle.table_indexes.specs.Indexes.{since_at}
use Rattle.session_steps.proofs.InUse.{marks-stay, scans-still, agree}
use Rattle.std.proofs.Common.{◌≡◌, ◌≢◌, ℕ, zero, suc, ◌≤◌, List, Option, Some, None, false, refl, sym, ap, ◌∙◌, subst, ◌⊎◌, inl, inr, arith}
use Rattle.std.specs.Prelude.{Contains, IsSome}
use Rattle.std.proofs.lemmas.Option.{same_Some, none-some}
use Rattle.xid_circle.specs.declared.Tid.{Tid}
use Rattle.xid_circle.specs.Following.{ReachesIn}
use Rattle.tuple_header.specs.Version.{Version}
use Rattle.page_sheet.specs.declared.slot.Slot.{Slot}
use Rattle.page_sheet.specs.Slots.{version_at}
use Rattle.commit_status.specs.declared.status.Status.TheVariants.{InProgress, Committed, Aborted}
use Rattle.commit_status.specs.Window.{Window, IsCommitted, IsAborted, place}
use Rattle.commit_status.proofs.Places.{upto-place, is-from_some}
use Rattle.commit_status.proofs.Giving.{finished-place}
use Rattle.snapshot.specs.Snap.{Snap, Sees}
use Rattle.snapshot.proofs.Sights.{past-seen}
use Rattle.visibility.specs.Visible.{IsDead, IsFrozen, state_of}
use Rattle.hot_chain.specs.Chain.{has_aborted}
use Rattle.prune.specs.Cutting.{IsCut}
use Rattle.sound_page.specs.Dead.{IsDeadAt}
use Rattle.sound_page.specs.Links.{link}
use Rattle.sound_page.proofs.Links.{link-of}
use Rattle.sound_page.proofs.Undone.{aborted-has}
use Rattle.index_lookup.specs.Pages.{slots_on, version_in}
use Rattle.heap_write.specs.Heap.{HeapView, slots_of}
use Rattle.heap_write.specs.Writes.{Prunes}
use Rattle.heap_write.specs.declared.applying.ApplyFault.{ApplyFault}
use Rattle.heap_write.specs.declared.applying.ApplyFault.TheVariants as apply_fault
use Rattle.table_integrity.specs.Table.{StaysSoundTable}
use Rattle.table_integrity.proofs.Places.{RemovesOn, prunes-stand, applies-stand}
use Rattle.table_integrity.proofs.Keeping.{pruned-stays, applied-stays}
use Rattle.history.specs.History.{Write}
use Rattle.history.specs.World.{World, OpenSession, joined, start_now}
use Rattle.calls.specs.declared.step.Step.TheVariants as step
use Rattle.calls.specs.declared.reply.Reply.TheVariants as reply
use Rattle.calls.specs.declared.reply.Refusal.{Refusal}
use Rattle.calls.specs.declared.reply.Refusal.TheVariants as refusal
use Rattle.calls.specs.Words.{PlanToApply}
use Rattle.calls.specs.declared.settings.Settings.{Settings}
use Rattle.refinement.specs.Agrees as relation_agrees
use Rattle.visibility.specs.Seeing as readers
use Rattle.refinement.specs.Changes as change
use Rattle.refinement.proofs.Readers.{Levels-top}
use Rattle.refinement.proofs.Follows as theory
use Rattle.sessions.specs.declared.session.Session.{Session}
use Rattle.sessions.specs.declared.session.SessionIsolation.{SessionIsolation}
use Rattle.sessions.specs.declared.session.SessionIsolation.TheVariants.{BySnapshot, ByStatement}
use Rattle.session_steps.specs.State.{State, session_at, seen, seen_in, reader_of, horizon_of}
use Rattle.sessions.specs.Session.{kept_by, IsByStatement}
use Rattle.session_steps.specs.Agrees.{Agrees, Follows}
use Rattle.session_steps.specs.Exact.{Cleans, AppliesPlan}
use Rattle.session_steps.proofs.Owns.{reader-is}
use Rattle.session_steps.proofs.Statements.{statement_sight, cursor_sight, kept-at}
use Rattle.session_steps.proofs.Horizons.{upto-horizon, below-xmin}
use Rattle.session_steps.proofs.Follows.{Follows-same, some-position}

not-zero : (x : ℕ) → 3 ≤ x → x ≢ 0
not-zero x normal is = absurd (omega arith)

abbrev IsPast : State → Version → Type 0
IsPast st v = change.IsPast (seen st).status (seen st).sees (seen st).session v

-- a committed deleter is one
deleter-of : (st : State) (v : Version) → IsCommitted st.heap.statuses v.header.xmax.0 → readers.deleter v.header ≡ Some v.header.xmax.0
deleter-of st v done =
    let at = finished-place st.heap.statuses v.header.xmax.0 (λ active. let e : Committed ≡ InProgress = sym done ∙ active in absurd (cc)) in
    is-deleter v.header v.header.xmax.0 (not-zero v.header.xmax.0 (upto-place st.heap.statuses v.header.xmax.0 at.0 at.1).normal) refl

-- What is dead at the horizon, nobody reads.
dead-past : (st : State) (w : World) (v : Version) → Agrees st w → IsDead st.heap.statuses (horizon_of st) v.header → IsPast st v
dead-past st w v agrees (IsDead.never_was thawed gone) =
    let at = finished-place st.heap.statuses v.header.xmin.0 (λ active. let e : Aborted ≡ InProgress = sym gone ∙ active in absurd (cc)) in
    change.IsPast.never_was v.header.xmin.0 (is-inserter v.header v.header.xmin.0 thawed refl) (state-is st.heap.statuses v.header.xmin.0 Aborted (is-from_some (place st.heap.statuses v.header.xmin.0) at.0 at.1) gone)
dead-past st w v agrees (IsDead.is_past done before) =
    let at = finished-place st.heap.statuses v.header.xmax.0 (λ active. let e : Committed ≡ InProgress = sym done ∙ active in absurd (cc)) in
    let upto = upto-place st.heap.statuses v.header.xmax.0 at.0 at.1 in
    change.IsPast.is_over v.header.xmax.0 (deleter-of st v done) (committed-from st.heap.statuses v.header.xmax.0 done)
    (λ snap kept. let k = kept-at st snap kept in
    past-seen st.heap.statuses snap (horizon_of st) v.header.xmax.0 agrees.sound.window ((agrees.sound.sessions k.0 k.1 k.2).snapshot snap k.3).bounds (upto-horizon st w agrees) upto (below-xmin st w agrees k.0 k.1 snap k.2 k.3) before)

-- Who reads by a snapshot that is kept: a session, or its cursor. Its own ids are in progress.
record KeptReader (st : State) (w : World) (snap : Snap) : Type 0 where
  pub own : List ℕ
  pub active : (x : ℕ) → Contains own x → readers.IsRunning (state_of st.heap.statuses) x
  pub start : ℕ
  pub writes : List Write
  pub reads : relation_agrees.ReaderAgrees (state_of st.heap.statuses) (seen st).version w.history (λ x. Sees snap st.heap.statuses x) start own writes

-- a session reads its view so
abbrev ReadsView : State → World → Session → OpenSession → (ℕ → Type 0) → ℕ → Type 0
ReadsView st w e m sees start = relation_agrees.ReaderAgrees (state_of st.heap.statuses) (seen st).version w.history sees start e.own.ids (joined m.levels)

kept-reader : (st : State) (w : World) → Agrees st w → (s : ℕ) (e : Session) (snap : Snap) → session_at st s ≡ Some e → kept_by e.isolation ≡ Some snap → KeptReader st w snap
kept-reader st w agrees s e snap at kept = of e.isolation refl
  where
    found : (m : OpenSession) × (w.session s ≡ Some m)
        × relation_agrees.SessionAgrees (state_of st.heap.statuses) (seen st).version w.history (statement_sight st e.isolation) (start_now w.history m) (cursor_sight st e.isolation) (reader_of e) m
    found = agrees.found.opened s (reader_of e) (reader-is st s e at)

    reads-by : (t : Snap) (start : ℕ) → t ≡ snap → ReadsView st w e found.0 (λ x. Sees t st.heap.statuses x) start → KeptReader st w snap
    reads-by t start same reads = record {
      own = e.own.ids;
      active = found.2.own_active;
      start = start;
      writes = joined found.0.levels;
      reads = subst (λ (t : Snap). ReadsView st w e found.0 (λ x. Sees t st.heap.statuses x) start) same reads;
    }

    of : (i : SessionIsolation) → e.isolation ≡ i → KeptReader st w snap
    of (BySnapshot t) is = reads-by t (start_now w.history found.0) (same_Some t snap (ap kept_by (sym is) ∙ kept))
        (subst (λ (i : SessionIsolation). ReadsView st w e found.0 (statement_sight st i) (start_now w.history found.0)) is (Levels-top e.own.ids e.own.saved found.0.levels found.2.levels))
    of (ByStatement None) is = absurd (none-some snap (ap kept_by (sym is) ∙ kept))
    of (ByStatement (Some t)) is =
        let some = (agrees.sound.sessions s e at).for_cursor (subst (λ i. IsByStatement i) (sym is) tt) (subst (λ o. IsSome o) (sym kept) refl) in
        let c = found.2.cursor_reads (some-position e.cursor some) in
        reads-by t c.start (same_Some t snap (ap kept_by (sym is) ∙ kept)) (subst (λ (i : SessionIsolation). ReadsView st w e found.0 (cursor_sight st i) c.start) is c.reads)

-- Who reads a version's deletion reads its making: so what comes before such a version in a chain, nobody reads either.

module _ (st : State) (w : World) (agrees : Agrees st w) (n : ℕ) where
  abbrev slots : List Slot
  slots = slots_on (slots_of st.heap) n

  before-past : (i k : ℕ) (v u : Version) → version_at slots i ≡ Some v → link st.heap.statuses slots i ≡ Some k → version_at slots k ≡ Some u → IsPast st u → IsPast st v
  before-past i k v u at next bt past =
      let l = link-of (has_aborted st.heap.statuses) slots i k next in
      let page = agrees.sound.table.heap n in
      let old : l.old ≡ v = same_Some l.old v (sym l.from ∙ at) in
      let new : l.new ≡ u = same_Some l.new u (sym l.to ∙ bt) in
      let made : u.header.xmin.0 ≡ v.header.xmax.0 = ap (λ (t : Version). t.header.xmin.0) (sym new) ∙ l.made ∙ ap (λ (t : Version). t.header.xmax.0) old in
      let live : has_aborted st.heap.statuses v.header.xmax.0 ≡ false = ap (λ (t : Version). has_aborted st.heap.statuses t.header.xmax.0) (sym old) ∙ l.live in
      of made live past (λ done. page.made k u bt done) (page.unfrozen i k u next bt)
    where
      of : u.header.xmin.0 ≡ v.header.xmax.0 → has_aborted st.heap.statuses v.header.xmax.0 ≡ false → IsPast st u
          → (IsCommitted st.heap.statuses u.header.xmax.0 → IsFrozen u.header ⊎ IsCommitted st.heap.statuses u.header.xmin.0) → ¬ IsFrozen u.header → IsPast st v
      of made live (change.IsPast.never_was x is gone) committed thawed =
          let m = inserter-is u.header x is in
          let aborted : IsAborted st.heap.statuses v.header.xmax.0 = subst (λ y. IsAborted st.heap.statuses y) (sym m.1 ∙ made) (state-some st.heap.statuses x Aborted gone).1 in
          let has = aborted-has st.heap.statuses v.header.xmax.0 aborted in absurd (cc)
      of made live (change.IsPast.is_over y is done all) committed thawed =
          let d = deleter-is u.header y is in
          let over : IsCommitted st.heap.statuses u.header.xmax.0 = subst (λ z. IsCommitted st.heap.statuses z) (sym d.1) (state-some st.heap.statuses y Committed done).1 in
          let mine : IsCommitted st.heap.statuses v.header.xmax.0 = elim (committed over) [ inl frozen ↦ absurd (thawed frozen) | inr c ↦ subst (λ z. IsCommitted st.heap.statuses z) made c ] in
          change.IsPast.is_over v.header.xmax.0 (deleter-of st v mine) (committed-from st.heap.statuses v.header.xmax.0 mine)
          (λ snap kept. let by = kept-at st snap kept in
          let reader = kept-reader st w agrees by.0 by.1 snap by.2 by.3 in
          elim (reader.reads.whole (record { page = n; slot = k }) y u bt is (readers.by_others (all snap kept) done) v.header.xmax.0 (is-inserter u.header v.header.xmax.0 thawed made)) [
            | readers.by_itself own ↦ (let active = (active-to st.heap.statuses v.header.xmax.0 (reader.active v.header.xmax.0 own)).unfinished in
                let e : Committed ≡ InProgress = sym mine ∙ active in absurd (cc))
            | readers.by_others sees _ ↦ sees
          ])

  cut-past : (turns i last : ℕ) (v : Version) → version_at slots i ≡ Some v → ReachesIn (link st.heap.statuses slots) turns i last → IsDeadAt st.heap.statuses (horizon_of st) slots last → IsPast st v
  cut-past zero i last v at along dead =
      dead-past st w v agrees (subst (λ (t : Version). IsDead st.heap.statuses (horizon_of st) t.header) (same_Some dead.version v (sym dead.there ∙ ap (version_at slots) (sym along) ∙ at)) dead.dead)
  cut-past (suc turns) i last v at along dead =
      let l = link-of (has_aborted st.heap.statuses) slots i along.0 along.1 in
      before-past i along.0 v l.new at along.1 l.to (cut-past turns along.0 last l.new l.to along.2 dead)

-- what goes from a page when what is cut goes, nobody reads
pub removes-past : (st : State) (w : World) (store' : Tid → Option Version) (n : ℕ) → Agrees st w
    → RemovesOn (version_in (slots_of st.heap)) store' n (IsCut st.heap.statuses (horizon_of st) (slots_on (slots_of st.heap) n))
    → change.MayRemove (seen st).version store' (λ v. change.IsPast (seen st).status (seen st).sees (seen st).session v)
removes-past st w store' n agrees removes = record {
  kept = removes.kept;
  gone = λ p v at. elim (removes.gone p v at) [
    | inl stays ↦ inl stays
    | inr cut ↦ inr (cut-past st w agrees n cut.1.later.turns p.slot cut.1.last v (ap (λ m. version_at (slots_on (slots_of st.heap) m) p.slot) (sym cut.0) ∙ at) cut.1.later.along cut.1.dead)
  ];
}

-- The step.

abbrev state_with : Settings → HeapView → List (Option Session) → State
state_with a h xs = record { settings = a; heap = h; sessions = xs }

abbrev with_parts : State → HeapView → State
with_parts st h = state_with st.settings h st.sessions

-- Of one page versions go that are cut by pruning at the horizon.
thinned : (st : State) (h : HeapView) (p : ℕ) (w : World) → h.statuses ≡ st.heap.statuses → h.max_pages ≡ st.heap.max_pages → StaysSoundTable st.heap h
    → RemovesOn (version_in (slots_of st.heap)) (version_in (slots_of h)) p (IsCut st.heap.statuses (horizon_of st) (slots_on (slots_of st.heap) p))
    → Agrees st w → Agrees (with_parts st h) w
thinned st h p w statuses limit stays removes agrees =
    let f = theory.Follows-prune (seen st) p (version_in (slots_of h)) (removes-past st w (version_in (slots_of h)) p agrees removes) w agrees.found in
    agree agrees stays.in_use (marks-stay st.sessions) (unmade refl refl) agrees.written (subst (λ t. relation_agrees.HeapAgrees (seen_in (slots_of h) t st.sessions) w) (sym statuses) f.1) (record {
      count = agrees.sound.count;
      max_pages = limit ∙ agrees.sound.max_pages;
      stop_age = rw statuses agrees.sound.stop_age;
      window = rw statuses agrees.sound.window;
      sessions = rw statuses agrees.sound.sessions;
      tops = rw statuses agrees.sound.tops;
      by_key = (stays.in_use 0).0 agrees.sound.by_key;
      since = λ n. subst (IsExactSince h.statuses) (sym (stays.since n)) (subst (λ t. IsExactSince t (since_at st.heap.indexes n)) (sym statuses) (agrees.sound.since n));
      scans = λ s e at. scans-still st.heap.statuses h.statuses st.heap.indexes h.indexes (ap (λ (w : Window). w.first) statuses) stays.in_use stays.since e (agrees.sound.scans s e at);
      table = stays.sound;
    })

pruned : (st : State) (h : HeapView) (p : ℕ) (w : World) → Prunes st.heap h p (horizon_of st) → Agrees st w → Agrees (with_parts st h) w
pruned st h p w prunes agrees = thinned st h p w (ap (λ (g : HeapView). g.statuses) prunes.is) (ap (λ (g : HeapView). g.max_pages) prunes.is)
    (pruned-stays st.heap h p (horizon_of st) agrees.sound.table prunes) (prunes-stand st.heap h p (horizon_of st) prunes) agrees

pub Follows-prune : (st st' : State) (p : ℕ) → Cleans st st' p → Follows st (step.Prune p) reply.Done st'
Follows-prune st st' p cleans w agrees =
    let stays = pruned-stays st.heap st'.heap p (horizon_of st) agrees.sound.table cleans.heap in
    (tt, subst (λ st'. Agrees st' w) (sym cleans.is) (pruned st st'.heap p w cleans.heap agrees), stays.led)

-- a plan that checks, whoever made it
pub Follows-apply : (st st' : State) (p : ℕ) (plan : PlanToApply) → AppliesPlan st st' p plan → Follows st (step.ApplyPlan p plan) reply.Done st'
Follows-apply st st' p plan a w agrees =
    let stays = applied-stays st.heap st'.heap p (horizon_of st) plan.change plan.actions agrees.sound.table a.heap in (
      tt,
      subst (λ st'. Agrees st' w) (sym a.is) (thinned st st'.heap p w (ap (λ (g : HeapView). g.statuses) a.heap.is)
          (ap (λ (g : HeapView). g.max_pages) a.heap.is) stays (applies-stand st.heap st'.heap p (horizon_of st) plan.change plan.actions a.heap) agrees),
      stays.led,
    )

-- the refusal of a plan that is not applied
abbrev pub named : ApplyFault → Refusal
named apply_fault.NoSuchPage = refusal.NoSuchPage
named apply_fault.Stale = refusal.Stale

pub Follows-unapplied : (st : State) (p : ℕ) (plan : PlanToApply) (fault : ApplyFault) → Follows st (step.ApplyPlan p plan) (reply.Refused (named fault)) st
Follows-unapplied st p plan apply_fault.NoSuchPage =
    Follows-same st (step.ApplyPlan p plan) (reply.Refused refusal.NoSuchPage) tt (theory.Follows-unapplied (seen st) p plan refusal.NoSuchPage (λ w. tt))
Follows-unapplied st p plan apply_fault.Stale =
    Follows-same st (step.ApplyPlan p plan) (reply.Refused refusal.Stale) tt (theory.Follows-unapplied (seen st) p plan refusal.Stale (λ w. tt))

pub Follows-no_such_page : (st : State) (p : ℕ) → Follows st (step.Prune p) (reply.Refused refusal.NoSuchPage) st
Follows-no_such_page st p = Follows-same st (step.Prune p) (reply.Refused refusal.NoSuchPage) tt (theory.Follows-unpruned (seen st) p refusal.NoSuchPage (λ w. tt))
