-- Forgetting old ids is seen by no reader.
use Rattle.std.proofs.Common.{◌≡◌, ◌≢◌, ◌↔◌, ℕ, List, Option, Some, refl, sym, ◌∙◌, subst, ⊎_elim}
use Rattle.std.specs.Prelude.{IsSome}
use Rattle.std.proofs.lemmas.Option.{none-some}
use Rattle.xid_circle.specs.declared.Tid.{Tid}
use Rattle.tuple_header.specs.Version.{Version}
use Rattle.commit_status.specs.declared.status.Status.{Status}
use Rattle.commit_status.specs.declared.status.Status.TheVariants.{InProgress, Committed, Aborted}
use Rattle.snapshot.specs.Snap.{Snap}
use Rattle.history.specs.History.{Write, Transaction}
use Rattle.history.specs.World.{World, OpenSession, joined}
use Rattle.refinement.specs.Heap.{SeenSession, Heap, kept_snapshot, SightOfStatement, StatementSees, CursorSees}
use Rattle.visibility.specs.Seeing.{HasCommitted, IsRunning, Reads, by_itself, by_others, Touches, made_by}
use Rattle.refinement.specs.Visible.{At}
use Rattle.refinement.specs.Agrees.{ReaderAgrees, SessionAgrees, HeapAgrees}
use Rattle.refinement.proofs.CursorsLemmas.{CursorAgrees-keeps, KeepsSeen-same}
use Rattle.refinement.proofs.Isolations.{SightOfCursor, of_statement, of_cursor, CursorReads-map}
use Rattle.refinement.proofs.ShowsLemmas.{Shows-same}
use Rattle.refinement.proofs.Readers.{Levels-map, ReaderAgrees-same}
use Rattle.visibility.proofs.Verdicts.{VisibleBy-same}
use Rattle.refinement.specs.Settling.{ForgetsIds}

committed-stays : Committed ≢ Aborted
committed-stays e = absurd (cc)

running-stays : InProgress ≢ Aborted
running-stays e = absurd (cc)

module _ (h : Heap) (status' : ℕ → Option Status) (sees' : Snap → ℕ → Type 0) (f : ForgetsIds h status' sees') where
  -- what is known of an id afterwards was known
  known : (x : ℕ) (s : Status) → status' x ≡ Some s → h.status x ≡ Some s
  known x s is = ⊎_elim (λ same. sym same ∙ is) (λ none. absurd (none-some s (sym none ∙ is))) (f.each x)

  -- of each id that stays, and wasn't rolled back, the same is seen
  abbrev IsSameLater : (ℕ → Type 0) → (ℕ → Type 0) → Type 0
  IsSameLater sight sight' = (x : ℕ) (status : Status) → status ≢ Aborted → status' x ≡ Some status → sight x ↔ sight' x

  -- so it is of what has committed
  committed_later : IsSameLater (λ x. HasCommitted h.status x) (λ x. HasCommitted status' x)
  committed_later x status ne is = (
    λ done. ⊎_elim (λ same. same ∙ done) (λ none. absurd (none-some status (sym none ∙ is))) (f.each x),
    λ done. known x Committed done,
  )

  statement_later : (s : ℕ) (e : SeenSession) → h.session s ≡ Some e → IsSameLater (StatementSees h e.isolation) (SightOfStatement status' sees' e.isolation)
  statement_later s e at = of_statement (λ sees sees'. IsSameLater sees sees') h.status status' h.sees sees' e.isolation committed_later (λ snap is. f.sight snap (s, e, at, is))

  cursor_later : (s : ℕ) (e : SeenSession) → h.session s ≡ Some e → IsSome (kept_snapshot e.isolation) → IsSameLater (CursorSees h e.isolation) (SightOfCursor status' sees' e.isolation)
  cursor_later s e at some = of_cursor (λ sees sees'. IsSameLater sees sees') h.status status' h.sees sees' e.isolation some (λ snap is. f.sight snap (s, e, at, is))

  module _ {sight sight' : ℕ → Type 0} (later : IsSameLater sight sight') where
    read-forth : (own : List ℕ) (p : Tid) (x : ℕ) (v : Version) → At h.version p v → Touches x v.header → Reads h.status sight own x → Reads status' sight' own x
    read-forth own p x v there touch (by_itself mine) = by_itself mine
    read-forth own p x v there touch (by_others sees done) =
        let done' = f.touched p v x there touch ∙ done in
        by_others ((later x Committed committed-stays done').0 sees) done'

    read-back : (own : List ℕ) (p : Tid) (x : ℕ) (v : Version) → At h.version p v → Touches x v.header → Reads status' sight' own x → Reads h.status sight own x
    read-back own p x v there touch (by_itself mine) = by_itself mine
    read-back own p x v there touch (by_others sees done) = by_others ((later x Committed committed-stays done).1 sees) (known x Committed done)

    ReaderAgrees-forgets : {history : List Transaction} {start : ℕ} (own : List ℕ) (writes : List Write) → ReaderAgrees h.status h.version history sight start own writes → ReaderAgrees status' h.version history sight' start own writes
    ReaderAgrees-forgets own writes r = ReaderAgrees-same (read-forth own) (read-back own) (λ x mine. mine) (λ k. refl) (λ k. refl) r

    active-forgets : ((x : ℕ) → IsRunning h.status x → ¬ sight x) → (x : ℕ) → IsRunning status' x → ¬ sight' x
    active-forgets unseen x active sees = unseen x (known x InProgress active) ((later x InProgress running-stays active).1 sees)

  SessionAgrees-forgets : {history : List Transaction} {sight sight' cursor_sight cursor_sight' : ℕ → Type 0} {start : ℕ} (e : SeenSession) (m : OpenSession) → IsSameLater sight sight' → (IsSome e.cursor → IsSameLater cursor_sight cursor_sight')
      → SessionAgrees h.status h.version history sight start cursor_sight e m → SessionAgrees status' h.version history sight' start cursor_sight' e m
  SessionAgrees-forgets {history} {sight} {sight'} {cursor_sight} {cursor_sight'} {start} e m later cursor a = record {
    same_failed = a.same_failed;
    isolation = a.isolation;
    kept = a.kept;
    cursor = CursorAgrees-keeps (λ some. KeepsSeen-same (λ p v there seen. VisibleBy-same (λ x touch. read-forth (cursor some) e.own p x v there touch) (λ x touch. read-back (cursor some) e.own p x v there touch) seen)
        (λ p v there seen. VisibleBy-same (λ x touch. read-back (cursor some) e.own p x v there touch) (λ x touch. read-forth (cursor some) e.own p x v there touch) seen)) a.cursor;
    cursor_reads = λ some. CursorReads-map (λ start le. le) (λ start le r. ReaderAgrees-forgets (cursor some) e.own (joined m.levels) r) (active-forgets (cursor some)) (a.cursor_reads some);
    levels = Levels-map e.own e.saved m.levels (λ own writes among r. ReaderAgrees-forgets later own writes r) a.levels;
    level_traces = a.level_traces;
    traces = record {
      late_missed = λ k late. let some = a.traces.late_missed k late in
          let missed = some.4 in
          let done = f.touched some.0 some.1 missed.0 some.2 missed.1.0 ∙ missed.1.1 in
          (some.0, some.1, some.2, some.3, (missed.0, (missed.1.0, done, λ sees. missed.1.2 ((later missed.0 Committed committed-stays done).1 sees))));
      missed_late = λ p v there missed. a.traces.missed_late p v there (missed.0, (missed.1.0, known missed.0 Committed missed.1.1, λ sees. missed.1.2 ((later missed.0 Committed committed-stays missed.1.1).0 sees)));
      timely = λ p v there current by. a.traces.timely p v there
          (VisibleBy-same (λ x touch done. known x Committed done) (λ x touch done. f.touched p v x there touch ∙ done) current)
          (λ x made. (later x Committed committed-stays (current.made x made)).1 (by x made));
    };
    began = a.began;
    in_time = a.in_time;
    active_unseen = active-forgets later a.active_unseen;
    own_active = λ x mine. f.active x (a.own_active x mine) ∙ a.own_active x mine;
  }

  pub Agrees-forgets : (w : World) → HeapAgrees h w → HeapAgrees (record h { status = status'; sees = sees' }) w
  Agrees-forgets w agrees = record {
    opened = λ s e at. let open_ = agrees.opened s e at in (open_.0, open_.1, SessionAgrees-forgets e open_.0 (statement_later s e at) (λ some. cursor_later s e at (open_.2.kept some)) open_.2);
    idle = agrees.idle;
    current = Shows-same (λ p v there seen. VisibleBy-same (λ x touch done. f.touched p v x there touch ∙ done) (λ x touch done. known x Committed done) seen)
        (λ p v there seen. VisibleBy-same (λ x touch done. known x Committed done) (λ x touch done. f.touched p v x there touch ∙ done) seen) (λ k. refl) agrees.current;
    made = λ p y v there is done x makes. f.touched p v x there (made_by makes) ∙ agrees.made p y v there is (known y Committed done) x makes;
    given = λ p x v there touch. subst (λ (o : Option Status). IsSome o) (sym (f.touched p v x there touch)) (agrees.given p x v there touch);
    owned = λ x active. agrees.owned x (known x InProgress active);
    apart = agrees.apart;
    alone = agrees.alone;
  }
