-- What snapshots see is told in other words, and no reader can tell.
use Rattle.std.proofs.Common.{ℕ, List, Option, refl}
use Rattle.std.specs.Prelude.{IsSome}
use Rattle.xid_circle.specs.declared.Tid.{Tid}
use Rattle.tuple_header.specs.Version.{Version}
use Rattle.commit_status.specs.declared.status.Status.{Status}
use Rattle.commit_status.specs.declared.status.Status.TheVariants.{InProgress}
use Rattle.snapshot.specs.Snap.{Snap}
use Rattle.history.specs.History.{Transaction}
use Rattle.history.specs.World.{World, OpenSession, joined}
use Rattle.refinement.specs.Heap.{SeenSession, Heap}
use Rattle.refinement.specs.Changes.{SameSight}
use Rattle.refinement.specs.Agrees.{SessionAgrees, HeapAgrees}
use Rattle.refinement.proofs.Readers.{Levels-map}
use Rattle.refinement.proofs.Traces.{TracesAgree-same, unseen_still}
use Rattle.refinement.proofs.CursorsLemmas.{CursorAgrees-keeps}
use Rattle.refinement.proofs.Others.{same_reader, same_seen, reads_before}
use Rattle.refinement.proofs.Isolations.{SameSights, statement_same, cursor_same, CursorReads-map}

SessionAgrees-sights : {status : ℕ → Option Status} {store : Tid → Option Version} {history : List Transaction} {sees sees' cursor_sees cursor_sees' : ℕ → Type 0} {start : ℕ} {e : SeenSession} {m : OpenSession}
    → SameSight status sees sees' → (IsSome e.cursor → SameSight status cursor_sees cursor_sees') → SessionAgrees status store history sees start cursor_sees e m → SessionAgrees status store history sees' start cursor_sees' e m
SessionAgrees-sights {status} {store} {history} {sees} {sees'} {cursor_sees} {cursor_sees'} {start} {e} {m} same cursor_same h = record {
  same_failed = h.same_failed;
  isolation = h.isolation;
  kept = h.kept;
  cursor = CursorAgrees-keeps (λ some. same_seen e.own (λ y done. done) (cursor_same some) (reads_before e.own (λ y done. done) (cursor_same some))) h.cursor;
  cursor_reads = λ some. CursorReads-map (λ start le. le)
      (λ start le r. same_reader e.own (joined m.levels) (λ y done. done) (cursor_same some) (reads_before e.own (λ y done. done) (cursor_same some)) (λ k. refl) r)
      (λ unseen y active. unseen_still (cursor_same some) y InProgress active (unseen y active)) (h.cursor_reads some);
  levels = Levels-map e.own e.saved m.levels (λ own writes among r. same_reader own writes (λ y done. done) same (reads_before own (λ y done. done) same) (λ k. refl) r) h.levels;
  level_traces = h.level_traces;
  traces = TracesAgree-same (λ y done. done) (λ y done. done) same h.traces;
  began = h.began;
  in_time = h.in_time;
  active_unseen = λ y active. unseen_still same y InProgress active (h.active_unseen y active);
  own_active = h.own_active;
}

pub Agrees-sights : (h : Heap) (w : World) (sees' : Snap → ℕ → Type 0) → SameSights h sees' → HeapAgrees h w → HeapAgrees (record h { sees = sees' }) w
Agrees-sights h w sees' same agrees = record {
  opened = λ s e at. let open_ = agrees.opened s e at in (open_.0, open_.1, SessionAgrees-sights (statement_same h h.status sees' s e at same (λ x status is. (λ done. done, λ done. done))) (λ some. cursor_same h h.status sees' s e at same (open_.2.kept some)) open_.2);
  idle = agrees.idle;
  current = agrees.current;
  made = agrees.made;
  given = agrees.given;
  owned = agrees.owned;
  apart = agrees.apart;
  alone = agrees.alone;
}
