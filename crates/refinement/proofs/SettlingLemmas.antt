-- Freezing is seen by no reader.
use Rattle.std.proofs.Common.{◌≡◌, ℕ, List, Option, Some, sym, ap, ◌∙◌, subst}
use Rattle.std.specs.Prelude.{Contains, IsSome}
use Rattle.std.proofs.lemmas.Option.{same_Some, none-some}
use Rattle.xid_circle.specs.declared.Tid.{Tid}
use Rattle.tuple_header.specs.declared.version.Row.{Row}
use Rattle.tuple_header.specs.Version.{Version}
use Rattle.commit_status.specs.declared.status.Status.{Status}
use Rattle.snapshot.specs.Snap.{Snap}
use Rattle.history.specs.History.{Write, Transaction, written, IsLate}
use Rattle.history.specs.World.{World, OpenSession}
use Rattle.refinement.specs.Heap.{SeenSession, Heap, kept_snapshot, IsKeptSnapshot, StatementSees, CursorSees}
use Rattle.visibility.specs.Seeing.{HasCommitted, HasAborted, IsRunning, Reads, by_itself, by_others, VisibleBy, Touches, made_by, deleted_by, inserter, deleter}
use Rattle.refinement.specs.Visible.{At}
use Rattle.refinement.specs.Agrees.{Shows, ReaderAgrees, Traced, SessionAgrees, HeapAgrees}
use Rattle.refinement.proofs.CursorsLemmas.{KeepsSeen, CursorAgrees-keeps}
use Rattle.refinement.proofs.Readers.{Levels-map}
use Rattle.refinement.proofs.Isolations.{of_statement, of_cursor, CursorReads-to}
use Rattle.refinement.proofs.LevelTraces.{nested_of, LevelTraces-map}
use Rattle.refinement.specs.Settling.{MakerSettles, DeleterSettles, VersionSettles, Settles}

pub aborted_not_committed : (status : ℕ → Option Status) (x : ℕ) → HasAborted status x → HasCommitted status x → ⊥
aborted_not_committed status x aborted done = cc

pub aborted_not_active : (status : ℕ → Option Status) (x : ℕ) → HasAborted status x → IsRunning status x → ⊥
aborted_not_active status x aborted active = cc

committed_not_active : (status : ℕ → Option Status) (x : ℕ) → HasCommitted status x → IsRunning status x → ⊥
committed_not_active status x done active = cc

module _ (h : Heap) where
  -- every snapshot that is kept sees the id
  abbrev IsSeenByAll : ℕ → Type 0
  IsSeenByAll x = (snap : Snap) → IsKeptSnapshot h.session snap → h.sees snap x

  -- what is read settles, and what was rolled back isn't read: so for a set of ids that is read or counted
  pub record Counts (R : ℕ → Type 0) : Type 0 where
    pub settled : (x : ℕ) → HasCommitted h.status x → IsSeenByAll x → R x
    pub none_aborted : (x : ℕ) → HasAborted h.status x → ¬ R x

  committed-counts : Counts (λ x. HasCommitted h.status x)
  committed-counts = record { settled = λ x done all. done; none_aborted = λ x gone done. aborted_not_committed h.status x gone done }

  seen-forth : {R : ℕ → Type 0} → Counts R → (v u : Version) → VersionSettles h v u → VisibleBy R v.header → VisibleBy R u.header
  seen-forth {R} counts v u s seen = record { made = λ x is. made x is s.inserter; kept = λ y is. kept y is s.deleter }
    where
      made : (x : ℕ) → inserter u.header ≡ Some x → MakerSettles h v u → R x
      made x is (MakerSettles.stays e) = seen.made x (sym e ∙ is)
      made x is (MakerSettles.settles y at none done all) = absurd (none-some x (sym none ∙ is))

      kept : (y : ℕ) → deleter u.header ≡ Some y → DeleterSettles h v u → ¬ R y
      kept y is (DeleterSettles.stays e) = seen.kept y (sym e ∙ is)
      kept y is (DeleterSettles.goes z at none gone) = absurd (none-some y (sym none ∙ is))

  seen-back : {R : ℕ → Type 0} → Counts R → (v u : Version) → VersionSettles h v u → VisibleBy R u.header → VisibleBy R v.header
  seen-back {R} counts v u s seen = record { made = λ x is. made x is s.inserter; kept = λ y is. kept y is s.deleter }
    where
      made : (x : ℕ) → inserter v.header ≡ Some x → MakerSettles h v u → R x
      made x is (MakerSettles.stays e) = seen.made x (e ∙ is)
      made x is (MakerSettles.settles y at none done all) = subst R (same_Some y x (sym at ∙ is)) (counts.settled y done all)

      kept : (y : ℕ) → deleter v.header ≡ Some y → DeleterSettles h v u → ¬ R y
      kept y is (DeleterSettles.stays e) = seen.kept y (e ∙ is)
      kept y is (DeleterSettles.goes z at none gone) = subst (λ z. ¬ R z) (same_Some z y (sym at ∙ is)) (counts.none_aborted z gone)

  -- whoever touches it afterwards did before
  touch-back : (x : ℕ) (v u : Version) → VersionSettles h v u → Touches x u.header → Touches x v.header
  touch-back x v u s (made_by is) = made s.inserter
    where
      made : MakerSettles h v u → Touches x v.header
      made (MakerSettles.stays e) = made_by (sym e ∙ is)
      made (MakerSettles.settles y at none done all) = absurd (none-some x (sym none ∙ is))
  touch-back x v u s (deleted_by is) = kept s.deleter
    where
      kept : DeleterSettles h v u → Touches x v.header
      kept (DeleterSettles.stays e) = deleted_by (sym e ∙ is)
      kept (DeleterSettles.goes z at none gone) = absurd (none-some x (sym none ∙ is))

  -- and before does afterwards, unless its making is settled or it was rolled back
  touch-forth : (x : ℕ) (v u : Version) → VersionSettles h v u → (HasCommitted h.status x → IsSeenByAll x → ⊥)
      → (HasAborted h.status x → ⊥) → Touches x v.header → Touches x u.header
  touch-forth x v u s open_ alive (made_by is) = made s.inserter
    where
      made : MakerSettles h v u → Touches x u.header
      made (MakerSettles.stays e) = made_by (e ∙ is)
      made (MakerSettles.settles y at none done all) =
          let same = same_Some y x (sym at ∙ is) in
          absurd (open_ (subst (λ y. HasCommitted h.status y) same done) (λ snap kept. subst (λ y. h.sees snap y) same (all snap kept)))
  touch-forth x v u s open_ alive (deleted_by is) = kept s.deleter
    where
      kept : DeleterSettles h v u → Touches x u.header
      kept (DeleterSettles.stays e) = deleted_by (e ∙ is)
      kept (DeleterSettles.goes z at none gone) = absurd (alive (subst (λ y. HasAborted h.status y) (same_Some z x (sym at ∙ is)) gone))

  module _ (store' : Tid → Option Version) (settles : Settles h store') where
    Shows-settles : {R : ℕ → Type 0} {f : ℕ → Option Row} → Counts R → Shows h.version (λ v. VisibleBy R v.header) f → Shows store' (λ v. VisibleBy R v.header) f
    Shows-settles {R} {f} counts shows = record {
      sound = λ p u at seen. let v = settles.back p u at in
          let r = v.2.row in
          subst (λ (r : Row). f r.key ≡ Some r) (sym r) (shows.sound p v.0 v.1 (seen-back counts v.0 u v.2 seen));
      there = λ k r is. let some = shows.there k r is in
          let u = settles.forth some.0 some.1 some.2 in
          (some.0, u.0, u.1, ap (λ (r : Row). r.key) u.2.row ∙ some.3, seen-forth counts some.1 u.0 u.2 some.4);
      one = λ p q u t at bt seen seen' key. let v = settles.back p u at in
          let s = settles.back q t bt in
          shows.one p q v.0 s.0 v.1 s.1 (seen-back counts v.0 u v.2 seen) (seen-back counts s.0 t s.2 seen') (ap (λ (r : Row). r.key) (sym v.2.row) ∙ key ∙ ap (λ (r : Row). r.key) s.2.row);
    }

    KeepsSeen-settles : {R : ℕ → Type 0} → Counts R → KeepsSeen h.version store' (λ v. VisibleBy R v.header) (λ v. VisibleBy R v.header)
    KeepsSeen-settles counts = record {
      to = λ p v at seen. let u = settles.forth p v at in (u.0, u.1, seen-forth counts v u.0 u.2 seen, u.2.row);
      back = λ p u at seen. let v = settles.back p u at in (v.0, v.1, seen-back counts v.0 u v.2 seen, sym v.2.row);
    }

    -- ids of P are neither settled nor rolled back
    Traced-settles : {P : ℕ → Type 0} {writes : List Write} → ((x : ℕ) → P x → IsRunning h.status x) → Traced h.version P writes → Traced store' P writes
    Traced-settles {P} {writes} active t = record {
      written_there = λ k wrote. let some = t.written_there k wrote in
          let u = settles.forth some.0 some.1 some.2 in
          let a = active some.4.0 some.4.2 in
          (some.0, u.0, u.1, ap (λ (r : Row). r.key) u.2.row ∙ some.3, (some.4.0, touch-forth some.4.0 some.1 u.0 u.2 (λ done all. committed_not_active h.status some.4.0 done a) (λ gone. aborted_not_active h.status some.4.0 gone a) some.4.1, some.4.2));
      there_written = λ p u at by. let v = settles.back p u at in
          subst (λ (r : Row). IsSome (written writes r.key)) (sym v.2.row) (t.there_written p v.0 v.1 (by.0, touch-back by.0 v.0 u v.2 by.1, by.2));
    }

    -- a sight that has what has committed and every snapshot sees, which is kept
    abbrev Settles-for : (ℕ → Type 0) → Type 0
    Settles-for sight = (x : ℕ) → HasCommitted h.status x → IsSeenByAll x → sight x

    counts-for : {sight : ℕ → Type 0} (own : List ℕ) → Settles-for sight → ((x : ℕ) → Contains own x → IsRunning h.status x) → Counts (Reads h.status sight own)
    counts-for {sight} own over active = record { settled = λ x done all. by_others (over x done all) done; none_aborted = λ x gone reads. unread x gone reads }
      where
        unread : (x : ℕ) → HasAborted h.status x → Reads h.status sight own x → ⊥
        unread x gone (by_itself mine) = aborted_not_active h.status x gone (active x mine)
        unread x gone (by_others sees done) = aborted_not_committed h.status x gone done

    ReaderAgrees-settles : {history : List Transaction} {sight : ℕ → Type 0} {start : ℕ} {writes : List Write} (own : List ℕ) → Settles-for sight → ((x : ℕ) → Contains own x → IsRunning h.status x)
        → ReaderAgrees h.status h.version history sight start own writes → ReaderAgrees h.status store' history sight start own writes
    ReaderAgrees-settles {history} {sight} {start} {writes} own over active r = record {
      rows = Shows-settles (counts-for own over active) r.rows;
      whole = λ p y u bt is reads x made. let v = settles.back p u bt in
          whole p y v.0 u v.1 v.2 v.2.inserter v.2.deleter is reads x made;
      covers = λ p u bt seen wrote. let v = settles.back p u bt in
          let made = r.covers p v.0 v.1 (seen-back (counts-for own over active) v.0 u v.2 seen) (subst (λ (r : Row). IsSome (written writes r.key)) v.2.row wrote) in
          (made.0, maker v.0 u made.0 made.1 made.2 v.2.inserter, made.2);
    }
      where
        -- what one of its own ids made is not settled
        maker : (v u : Version) (x : ℕ) → inserter v.header ≡ Some x → Contains own x → MakerSettles h v u → inserter u.header ≡ Some x
        maker v u x made mine (MakerSettles.stays m) = m ∙ made
        maker v u x made mine (MakerSettles.settles z at' none done all) =
            absurd (committed_not_active h.status x (subst (λ z. HasCommitted h.status z) (same_Some z x (sym at' ∙ made)) done) (active x mine))

        whole : (p : Tid) (y : ℕ) (v u : Version) → At h.version p v → VersionSettles h v u → MakerSettles h v u → DeleterSettles h v u → deleter u.header ≡ Some y → Reads h.status sight own y
            → (x : ℕ) → inserter u.header ≡ Some x → Reads h.status sight own x
        whole p y v u bt vs (MakerSettles.stays m) (DeleterSettles.stays d) is reads x made = r.whole p y v bt (sym d ∙ is) reads x (sym m ∙ made)
        whole p y v u bt vs (MakerSettles.stays m) (DeleterSettles.goes z at' none gone) is reads x made = absurd (none-some y (sym none ∙ is))
        whole p y v u bt vs (MakerSettles.settles z at' none done all) d is reads x made = absurd (none-some x (sym none ∙ made))

    -- who has seen the maker afterwards saw it before: one who settled is seen by all
    maker_seen : {sight : ℕ → Type 0} → Settles-for sight → (v u : Version) → ((x : ℕ) → inserter u.header ≡ Some x → sight x) → (x : ℕ) → inserter v.header ≡ Some x → MakerSettles h v u → sight x
    maker_seen over v u by x is (MakerSettles.stays e) = by x (e ∙ is)
    maker_seen {sight} over v u by x is (MakerSettles.settles y at' none done all) = subst (λ z. sight z) (same_Some y x (sym at' ∙ is)) (over y done all)

    SessionAgrees-settles : {history : List Transaction} {sight cursor_sight : ℕ → Type 0} {start : ℕ} (e : SeenSession) (m : OpenSession) → Settles-for sight → (IsSome e.cursor → Settles-for cursor_sight)
        → SessionAgrees h.status h.version history sight start cursor_sight e m → SessionAgrees h.status store' history sight start cursor_sight e m
    SessionAgrees-settles {history} {sight} {cursor_sight} {start} e m over cursor_over a = record {
      same_failed = a.same_failed;
      isolation = a.isolation;
      kept = a.kept;
      cursor = CursorAgrees-keeps (λ some. KeepsSeen-settles (counts-for e.own (cursor_over some) a.own_active)) a.cursor;
      cursor_reads = λ some. CursorReads-to (λ start r. ReaderAgrees-settles e.own (cursor_over some) a.own_active r) (a.cursor_reads some);
      levels = Levels-map e.own e.saved m.levels (λ own writes among r. ReaderAgrees-settles own over (λ x mine. a.own_active x (among x mine)) r) a.levels;
      level_traces = LevelTraces-map e.own e.saved m.levels (nested_of h.status h.version history sight start e.own e.saved m.levels a.levels)
          (λ P writes within t. Traced-settles (λ x p. a.own_active x (within x p)) t) a.level_traces;
      traces = record {
        late_missed = λ k late. let some = a.traces.late_missed k late in
            let u = settles.forth some.0 some.1 some.2 in
            let missed = some.4 in
            (some.0, u.0, u.1, ap (λ (r : Row). r.key) u.2.row ∙ some.3, (missed.0, (touch-forth missed.0 some.1 u.0 u.2 (λ done all. missed.1.2 (over missed.0 done all)) (λ gone. aborted_not_committed h.status missed.0 gone missed.1.1) missed.1.0, missed.1.1, missed.1.2)));
        missed_late = λ p u bt missed. let v = settles.back p u bt in
            subst (λ (r : Row). IsLate history start r.key) (sym v.2.row) (a.traces.missed_late p v.0 v.1 (missed.0, (touch-back missed.0 v.0 u v.2 missed.1.0, missed.1.1, missed.1.2)));
        timely = λ p u bt current by. let v = settles.back p u bt in
            subst (λ (r : Row). ¬ IsLate history start r.key) (sym v.2.row) (a.traces.timely p v.0 v.1 (seen-back committed-counts v.0 u v.2 current) (λ x is. maker_seen over v.0 u by x is v.2.inserter));
      };
      began = a.began;
      in_time = a.in_time;
      active_unseen = a.active_unseen;
      own_active = a.own_active;
    }

    statement_settles : (s : ℕ) (e : SeenSession) → h.session s ≡ Some e → Settles-for (StatementSees h e.isolation)
    statement_settles s e at x done all = of_statement (λ sees sees'. sees' x) h.status h.status h.sees h.sees e.isolation done (λ snap is. all snap (s, e, at, is))

    cursor_settles : (s : ℕ) (e : SeenSession) → h.session s ≡ Some e → IsSome (kept_snapshot e.isolation) → Settles-for (CursorSees h e.isolation)
    cursor_settles s e at some x done all = of_cursor (λ sees sees'. sees' x) h.status h.status h.sees h.sees e.isolation some (λ snap is. all snap (s, e, at, is))

    pub Agrees-settles : (w : World) → HeapAgrees h w → HeapAgrees (record h { version = store' }) w
    Agrees-settles w agrees = record {
      opened = λ s e at. let open_ = agrees.opened s e at in (open_.0, open_.1, SessionAgrees-settles e open_.0 (statement_settles s e at) (λ some. cursor_settles s e at (open_.2.kept some)) open_.2);
      idle = agrees.idle;
      current = Shows-settles committed-counts agrees.current;
      made = λ p y u at is done x makes. let v = settles.back p u at in made p y v.0 u v.1 v.2.inserter v.2.deleter is done x makes;
      given = λ p x u at touch. let v = settles.back p u at in agrees.given p x v.0 v.1 (touch-back x v.0 u v.2 touch);
      owned = agrees.owned;
      apart = agrees.apart;
      alone = agrees.alone;
    }
      where
        made : (p : Tid) (y : ℕ) (v u : Version) → At h.version p v → MakerSettles h v u → DeleterSettles h v u → deleter u.header ≡ Some y → HasCommitted h.status y → (x : ℕ) → inserter u.header ≡ Some x → HasCommitted h.status x
        made p y v u at (MakerSettles.stays m) (DeleterSettles.stays d) is done x makes = agrees.made p y v at (sym d ∙ is) done x (sym m ∙ makes)
        made p y v u at (MakerSettles.stays m) (DeleterSettles.goes z bt none gone) is done x makes = absurd (none-some y (sym none ∙ is))
        made p y v u at (MakerSettles.settles z bt none done' all) d is done x makes = absurd (none-some x (sym none ∙ makes))
