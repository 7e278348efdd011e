-- Cleaning is seen by no reader: versions go that nobody reads, and that are nobody's trace.
use Rattle.std.proofs.Common.{◌≡◌, ℕ, List, Option, Some, sym, ◌∙◌, subst, inl, inr}
use Rattle.std.specs.Prelude.{IsSome, Contains}
use Rattle.std.proofs.lemmas.Option.{same_Some}
use Rattle.xid_circle.specs.declared.Tid.{Tid}
use Rattle.tuple_header.specs.declared.version.Row.{Row}
use Rattle.tuple_header.specs.Version.{Version}
use Rattle.commit_status.specs.declared.status.Status.{Status}
use Rattle.snapshot.specs.Snap.{Snap}
use Rattle.history.specs.History.{Write, Transaction}
use Rattle.history.specs.World.{World, OpenSession}
use Rattle.refinement.specs.Heap.{SeenSession, Heap, kept_snapshot, IsKeptSnapshot, StatementSees, CursorSees}
use Rattle.visibility.specs.Seeing.{HasCommitted, HasAborted, IsRunning, Reads, by_itself, by_others, VisibleBy, made_by, deleted_by, inserter, deleter}
use Rattle.refinement.specs.Visible.{ReaderSees, HasMissed, IsOwn, IsBy, At, SomeVersion}
use Rattle.refinement.specs.Changes.{MayRemove, IsPast, never_was, is_over}
use Rattle.refinement.specs.Agrees.{Shows, ReaderAgrees, Traced, SessionAgrees, HeapAgrees}
use Rattle.refinement.proofs.CursorsLemmas.{CursorAgrees-keeps, KeepsSeen-removes}
use Rattle.refinement.proofs.Readers.{Levels-map, Levels-top}
use Rattle.refinement.proofs.Isolations.{of_statement, of_cursor, CursorReads-to, running_uncommitted}
use Rattle.refinement.proofs.LevelTraces.{nested_of, LevelTraces-map}
use Rattle.refinement.proofs.SettlingLemmas.{aborted_not_committed, aborted_not_active}

-- versions that are not seen go
pub Shows-removes : {store store' : Tid → Option Version} {P V : Version → Type 0} {f : ℕ → Option Row}
    → MayRemove store store' P → ((p : Tid) (v : Version) → At store p v → P v → ¬ V v) → Shows store V f → Shows store' V f
Shows-removes removes unseen h = record {
  sound = λ p v at seen. h.sound p v (removes.kept p v at) seen;
  there = λ k r is. let some = h.there k r is in (some.0, some.1, elim (removes.gone some.0 some.1 some.2) [ inl stays ↦ stays | inr goes ↦ absurd (unseen some.0 some.1 some.2 goes some.4) ], some.3, some.4);
  one = λ p q v u at bt seen seen' key. h.one p q v u (removes.kept p v at) (removes.kept q u bt) seen seen' key;
}

SomeVersion-removes : {store store' : Tid → Option Version} {P Q : Version → Type 0} → MayRemove store store' P → ((p : Tid) (v : Version) → At store p v → P v → ¬ Q v)
    → (k : ℕ) → SomeVersion store k Q → SomeVersion store' k Q
SomeVersion-removes removes apart k some =
    (some.0, some.1, elim (removes.gone some.0 some.1 some.2) [ inl stays ↦ stays | inr goes ↦ absurd (apart some.0 some.1 some.2 goes some.4) ], some.3, some.4)

-- versions go that no id of P touches
Traced-removes : {store store' : Tid → Option Version} {P : ℕ → Type 0} {writes : List Write} {Past : Version → Type 0}
    → MayRemove store store' Past → ((p : Tid) (v : Version) → At store p v → Past v → ¬ IsBy P v) → Traced store P writes → Traced store' P writes
Traced-removes removes apart h = record {
  written_there = λ k wrote. SomeVersion-removes removes apart k (h.written_there k wrote);
  there_written = λ p v at by. h.there_written p v (removes.kept p v at) by;
}

-- A reader of this sight: its own ids are in progress, and it sees what has committed and is seen by every snapshot that is kept
pub record IsReaderOf (status : ℕ → Option Status) (sees : Snap → ℕ → Type 0) (session : ℕ → Option SeenSession) (sight : ℕ → Type 0) (own : List ℕ) : Type 0 where
  pub active : (x : ℕ) → Contains own x → IsRunning status x
  pub over : (y : ℕ) → HasCommitted status y → ((snap : Snap) → IsKeptSnapshot session snap → sees snap y) → sight y

-- what was rolled back is not read
aborted_unread : {status : ℕ → Option Status} {sees : Snap → ℕ → Type 0} {session : ℕ → Option SeenSession} {sight : ℕ → Type 0} {own : List ℕ} → IsReaderOf status sees session sight own
    → (x : ℕ) → HasAborted status x → ¬ Reads status sight own x
aborted_unread {status} reader x aborted (by_itself mine) = aborted_not_active status x aborted (reader.active x mine)
aborted_unread {status} reader x aborted (by_others seen done) = aborted_not_committed status x aborted done

pub past_unseen : {status : ℕ → Option Status} {sees : Snap → ℕ → Type 0} {session : ℕ → Option SeenSession} {sight : ℕ → Type 0} {own : List ℕ} → IsReaderOf status sees session sight own
    → (v : Version) → IsPast status sees session v → ¬ ReaderSees status sight own v
past_unseen reader v (never_was x made aborted) seen = aborted_unread reader x aborted (seen.made x made)
past_unseen reader v (is_over y by done all) seen = seen.kept y by (by_others (reader.over y done all) done)

-- by the reader's own ids none of these is touched
past_foreign : {status : ℕ → Option Status} {store : Tid → Option Version} {history : List Transaction} {sees : Snap → ℕ → Type 0} {session : ℕ → Option SeenSession} {sight : ℕ → Type 0} {start : ℕ} {own : List ℕ} {writes : List Write}
    → IsReaderOf status sees session sight own → ((p : Tid) (y : ℕ) (v : Version) → At store p v → deleter v.header ≡ Some y → HasCommitted status y → (x : ℕ) → inserter v.header ≡ Some x → HasCommitted status x)
    → ReaderAgrees status store history sight start own writes → (p : Tid) (v : Version) → At store p v → IsPast status sees session v → ¬ IsOwn own v
past_foreign {status} reader made h p v at (never_was x makes aborted) (z, made_by is, mine) =
    aborted_not_active status z (subst (λ z. HasAborted status z) (same_Some x z (sym makes ∙ is)) aborted) (reader.active z mine)
past_foreign {status} reader made h p v at (never_was x makes aborted) (z, deleted_by is, mine) =
    aborted_unread reader x aborted (h.whole p z v at is (by_itself mine) x makes)
past_foreign {status} reader made h p v at (is_over y by done all) (z, made_by is, mine) =
    running_uncommitted status z (reader.active z mine) (made p y v at by done z is)
past_foreign {status} reader made h p v at (is_over y by done all) (z, deleted_by is, mine) =
    running_uncommitted status y (subst (λ z. IsRunning status z) (same_Some z y (sym is ∙ by)) (reader.active z mine)) done

-- nor is any missed
past_seen : {status : ℕ → Option Status} {store : Tid → Option Version} {history : List Transaction} {sees : Snap → ℕ → Type 0} {session : ℕ → Option SeenSession} {sight : ℕ → Type 0} {start : ℕ} {own : List ℕ} {writes : List Write}
    → IsReaderOf status sees session sight own → ((p : Tid) (y : ℕ) (v : Version) → At store p v → deleter v.header ≡ Some y → HasCommitted status y → (x : ℕ) → inserter v.header ≡ Some x → HasCommitted status x)
    → ReaderAgrees status store history sight start own writes → (p : Tid) (v : Version) → At store p v → IsPast status sees session v → ¬ HasMissed status sight v
past_seen {status} reader made h p v at (never_was x makes aborted) (z, (made_by is, done, unseen)) =
    aborted_not_committed status z (subst (λ z. HasAborted status z) (same_Some x z (sym makes ∙ is)) aborted) done
past_seen {status} reader made h p v at (never_was x makes aborted) (z, (deleted_by is, done, unseen)) =
    aborted_not_committed status x aborted (made p z v at is done x makes)
past_seen {status} {store} {history} {sees} {session} {sight} reader made h p v at (is_over y by done all) (z, (made_by is, done', unseen)) =
    elim (h.whole p y v at by (by_others (reader.over y done all) done) z is) [
      | by_itself mine ↦ running_uncommitted status z (reader.active z mine) done'
      | by_others seen _ ↦ unseen seen
    ]
past_seen {status} {store} {history} {sees} {session} {sight} reader made h p v at (is_over y by done all) (z, (deleted_by is, done', unseen)) =
    unseen (subst (λ z. sight z) (same_Some y z (sym by ∙ is)) (reader.over y done all))

pub ReaderAgrees-prune : {status : ℕ → Option Status} {store store' : Tid → Option Version} {history : List Transaction} {sees : Snap → ℕ → Type 0} {session : ℕ → Option SeenSession} {sight : ℕ → Type 0} {start : ℕ} {own : List ℕ} {writes : List Write}
    → MayRemove store store' (IsPast status sees session) → IsReaderOf status sees session sight own
    → ((p : Tid) (y : ℕ) (v : Version) → At store p v → deleter v.header ≡ Some y → HasCommitted status y → (x : ℕ) → inserter v.header ≡ Some x → HasCommitted status x)
    → ReaderAgrees status store history sight start own writes → ReaderAgrees status store' history sight start own writes
ReaderAgrees-prune removes reader made h = record {
  rows = Shows-removes removes (λ p v at past. past_unseen reader v past) h.rows;
  whole = λ p y v at is reads. h.whole p y v (removes.kept p v at) is reads;
  covers = λ p v at. h.covers p v (removes.kept p v at);
}

SessionAgrees-prune : {status : ℕ → Option Status} {store store' : Tid → Option Version} {history : List Transaction} {sees : Snap → ℕ → Type 0} {session : ℕ → Option SeenSession} {sight cursor_sight : ℕ → Type 0} {start : ℕ} (e : SeenSession) (m : OpenSession)
    → MayRemove store store' (IsPast status sees session) → ((own : List ℕ) → ((x : ℕ) → Contains own x → IsRunning status x) → IsReaderOf status sees session sight own)
    → (IsSome e.cursor → IsReaderOf status sees session cursor_sight e.own)
    → ((p : Tid) (y : ℕ) (v : Version) → At store p v → deleter v.header ≡ Some y → HasCommitted status y → (x : ℕ) → inserter v.header ≡ Some x → HasCommitted status x)
    → SessionAgrees status store history sight start cursor_sight e m → SessionAgrees status store' history sight start cursor_sight e m
SessionAgrees-prune {status} {store} {store'} {history} {sees} {session} {sight} {cursor_sight} {start} e m removes reads cursor made h = record {
  same_failed = h.same_failed;
  isolation = h.isolation;
  kept = h.kept;
  cursor = CursorAgrees-keeps (λ some. KeepsSeen-removes removes (λ p v bt past. past_unseen (cursor some) v past)) h.cursor;
  cursor_reads = λ some. CursorReads-to (λ start r. ReaderAgrees-prune removes (cursor some) made r) (h.cursor_reads some);
  levels = Levels-map e.own e.saved m.levels (λ own writes among r. ReaderAgrees-prune removes (reader own among) made r) h.levels;
  level_traces = LevelTraces-map e.own e.saved m.levels (nested_of status store history sight start e.own e.saved m.levels h.levels)
      (λ P writes within t. Traced-removes removes (λ p v bt past by. past_foreign (reader e.own (λ x mine. mine)) made (Levels-top e.own e.saved m.levels h.levels) p v bt past (by.0, by.1, within by.0 by.2)) t) h.level_traces;
  traces = record {
    late_missed = λ k late. SomeVersion-removes removes (λ p v bt past. past_seen (reader e.own (λ x mine. mine)) made (Levels-top e.own e.saved m.levels h.levels) p v bt past) k (h.traces.late_missed k late);
    missed_late = λ p v bt missed. h.traces.missed_late p v (removes.kept p v bt) missed;
    timely = λ p v bt. h.traces.timely p v (removes.kept p v bt);
  };
  began = h.began;
  in_time = h.in_time;
  active_unseen = h.active_unseen;
  own_active = h.own_active;
}
  where
    reader : (own : List ℕ) → ((x : ℕ) → Contains own x → Contains e.own x) → IsReaderOf status sees session sight own
    reader own among = reads own (λ x mine. h.own_active x (among x mine))

-- a session's statements read so, and so does its cursor

pub statement_reader : (h : Heap) (s : ℕ) (e : SeenSession) (own : List ℕ) → h.session s ≡ Some e → ((x : ℕ) → Contains own x → IsRunning h.status x) → IsReaderOf h.status h.sees h.session (StatementSees h e.isolation) own
statement_reader h s e own at active = record {
  active = active;
  over = λ y done all. of_statement (λ sees sees'. sees' y) h.status h.status h.sees h.sees e.isolation done (λ snap is. all snap (s, e, at, is));
}

cursor_reader : (h : Heap) (s : ℕ) (e : SeenSession) → h.session s ≡ Some e → IsSome (kept_snapshot e.isolation) → ((x : ℕ) → Contains e.own x → IsRunning h.status x) → IsReaderOf h.status h.sees h.session (CursorSees h e.isolation) e.own
cursor_reader h s e at some active = record {
  active = active;
  over = λ y done all. of_cursor (λ sees sees'. sees' y) h.status h.status h.sees h.sees e.isolation some (λ snap is. all snap (s, e, at, is));
}

-- what nobody reads goes, and no session can tell
pub Agrees-prune : (h : Heap) (w : World) (store' : Tid → Option Version) → MayRemove h.version store' (IsPast h.status h.sees h.session)
    → HeapAgrees h w → HeapAgrees (record h { version = store' }) w
Agrees-prune h w store' removes agrees = record {
  opened = λ s e at. let open_ = agrees.opened s e at in (open_.0, open_.1, SessionAgrees-prune e open_.0 removes (λ own active. statement_reader h s e own at active) (λ some. cursor_reader h s e at (open_.2.kept some) open_.2.own_active) agrees.made open_.2);
  idle = agrees.idle;
  current = Shows-removes removes unseen agrees.current;
  made = λ p y v at. agrees.made p y v (removes.kept p v at);
  given = λ p x v at. agrees.given p x v (removes.kept p v at);
  owned = agrees.owned;
  apart = agrees.apart;
  alone = agrees.alone;
}
  where
    unseen : (p : Tid) (v : Version) → At h.version p v → IsPast h.status h.sees h.session v → ¬ VisibleBy (HasCommitted h.status) v.header
    unseen p v at (never_was x made aborted) seen = aborted_not_committed h.status x aborted (seen.made x made)
    unseen p v at (is_over y by done all) seen = seen.kept y by done
