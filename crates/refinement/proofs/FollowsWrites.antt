-- A write is done: the history allows it, and the engine agrees with the next world. Before it writes, the engine may
-- have cleaned, and have given the session an id: what it is by now agrees with the same world.
use Rattle.std.proofs.Common.{◌≡◌, ℕ, Option, Some, None, refl, sym, ap, ◌∙◌, subst}
use Rattle.std.specs.Prelude.{IsSome}
use Rattle.std.specs.Option.{option_map}
use Rattle.std.proofs.lemmas.Option.{same_Some}
use Rattle.xid_circle.specs.declared.Tid.{Tid}
use Rattle.tuple_header.specs.declared.version.Row.{Row}
use Rattle.tuple_header.specs.Version.{Version}
use Rattle.history.specs.History.{IsLate}
use Rattle.history.specs.World.{World, OpenSession, view, Holds, start_now}
use Rattle.history.specs.Moves.{put, with_write}
use Rattle.calls.specs.declared.step.Step.TheVariants as step
use Rattle.calls.specs.declared.reply.Reply.TheVariants as reply
use Rattle.calls.specs.Words.{RowToWrite, FitsRow, row_of}
use Rattle.calls.specs.Writes.{inserts, updates, deletes}
use Rattle.refinement.specs.Allowed.{Allows, next}
use Rattle.refinement.specs.Heap.{SeenSession, Heap, StatementSees, CursorSees}
use Rattle.refinement.specs.Visible.{ReaderSees, At}
use Rattle.refinement.specs.Changes.{AddsVersion, Alters}
use Rattle.refinement.specs.Agrees.{SessionAgrees, HeapAgrees}
use Rattle.refinement.specs.Finds.{Free}
use Rattle.refinement.proofs.Readers.{IsNew, IsDeleted}
use Rattle.refinement.proofs.Itself.{IsCurrent}
use Rattle.refinement.proofs.Steps.{Agrees-insert}
use Rattle.refinement.proofs.Deleting.{Agrees-delete}
use Rattle.refinement.proofs.Updating.{Agrees-update}
use Rattle.refinement.proofs.Hindrances.{allows_write}

-- the session and its model in the engine as it is now
agrees_now : (now : Heap) (w : World) (s : ℕ) (e : SeenSession) (m : OpenSession) → HeapAgrees now w → now.session s ≡ Some e → w.session s ≡ Some m → SessionAgrees now.status now.version w.history (StatementSees now e.isolation) (start_now w.history m) (CursorSees now e.isolation) e m
agrees_now now w s e m agrees at there =
    let open_ = agrees.opened s e at in
    subst (λ (n : OpenSession). SessionAgrees now.status now.version w.history (StatementSees now e.isolation) (start_now w.history n) (CursorSees now e.isolation) e n) (same_Some open_.0 m (sym open_.1 ∙ there)) open_.2

pub insert_done : (h now : Heap) (w : World) (s : ℕ) (e e' : SeenSession) (row : RowToWrite) (x : ℕ) (place : Tid) (new : Version) (store' : Tid → Option Version)
    → Free h s e row.key None → FitsRow row → HeapAgrees h w → HeapAgrees now w → now.session s ≡ Some e' → IsCurrent e' x
    → AddsVersion now.version store' place new → IsNew x new → new.row ≡ row_of row
    → Allows w (step.Insert s row) reply.Done × HeapAgrees (record now { version = store' }) (next w (step.Insert s row) reply.Done)
insert_done h now w s e e' row x place new store' free fits agrees still at current adds is_new same =
    let allows = allows_write h w s e (inserts row) None free (fits, refl) agrees in
    let there : w.session s ≡ Some allows.0 = allows.2.writer.ready.there in
    let key : new.row.key ≡ row.key = ap (λ (r : Row). r.key) same in (
      allows,
      subst (λ o. HeapAgrees (record now { version = store' }) (put w s (option_map (with_write w.history (row_of row).key (Some (row_of row))) o))) (sym there)
          (subst (λ r. HeapAgrees (record now { version = store' }) (put w s (Some (with_write w.history r.key (Some r) allows.0)))) same
          (Agrees-insert now w s e' allows.0 x place new store' adds is_new at current there allows.2.writer.bare
          (ap (view w.history allows.0) key ∙ allows.1.1) (subst (λ k. ¬ IsLate w.history (start_now w.history allows.0) k) (sym key) allows.2.in_time)
          (λ o ne holds. allows.2.unheld o ne (subst (λ k. Holds w o k) key holds)) (agrees_now now w s e' allows.0 still at there) still)),
    )

-- the new version is added, and then the old one is deleted
pub update_done : (h now : Heap) (w : World) (s : ℕ) (e e' : SeenSession) (row : RowToWrite) (found : Option Row) (x : ℕ) (place q : Tid) (old old' new : Version) (added altered : Tid → Option Version)
    → Free h s e row.key found → FitsRow row → IsSome found → HeapAgrees h w → HeapAgrees now w → now.session s ≡ Some e' → IsCurrent e' x
    → At now.version place old → ReaderSees now.status (StatementSees now e'.isolation) e'.own old → old.row.key ≡ row.key
    → AddsVersion now.version added q new → IsNew x new → new.row ≡ row_of row → Alters added altered place old old' → IsDeleted x old old'
    → Allows w (step.Update s row) reply.Done × HeapAgrees (record now { version = altered }) (next w (step.Update s row) reply.Done)
update_done h now w s e e' row found x place q old old' new added altered free fits some agrees still at current stood seen key adds is_new same alters deleted =
    let allows = allows_write h w s e (updates row) found free (fits, some) agrees in
    let there : w.session s ≡ Some allows.0 = allows.2.writer.ready.there in
    let same_key : new.row.key ≡ old.row.key = ap (λ (r : Row). r.key) same ∙ sym key in (
      allows,
      subst (λ o. HeapAgrees (record now { version = altered }) (put w s (option_map (with_write w.history (row_of row).key (Some (row_of row))) o))) (sym there)
          (subst (λ r. HeapAgrees (record now { version = altered }) (put w s (Some (with_write w.history r.key (Some r) allows.0)))) same
          (Agrees-update now w s e' allows.0 x place q old old' new added altered stood adds is_new same_key alters deleted at current there allows.2.writer.bare seen
          (subst (λ k. ¬ IsLate w.history (start_now w.history allows.0) k) (sym key) allows.2.in_time)
          (λ o ne holds. allows.2.unheld o ne (subst (λ k. Holds w o k) key holds)) (agrees_now now w s e' allows.0 still at there) still)),
    )

pub delete_done : (h now : Heap) (w : World) (s : ℕ) (e e' : SeenSession) (key : ℕ) (found : Option Row) (x : ℕ) (place : Tid) (old old' : Version) (store' : Tid → Option Version)
    → Free h s e key found → IsSome found → HeapAgrees h w → HeapAgrees now w → now.session s ≡ Some e' → IsCurrent e' x
    → ReaderSees now.status (StatementSees now e'.isolation) e'.own old → old.row.key ≡ key → Alters now.version store' place old old' → IsDeleted x old old'
    → Allows w (step.Delete s key) reply.Done × HeapAgrees (record now { version = store' }) (next w (step.Delete s key) reply.Done)
delete_done h now w s e e' key found x place old old' store' free some agrees still at current seen same alters deleted =
    let allows = allows_write h w s e (deletes key) found free some agrees in
    let there : w.session s ≡ Some allows.0 = allows.2.writer.ready.there in (
      allows,
      subst (λ o. HeapAgrees (record now { version = store' }) (put w s (option_map (with_write w.history key None) o))) (sym there)
          (subst (λ k. HeapAgrees (record now { version = store' }) (put w s (Some (with_write w.history k None allows.0)))) same
          (Agrees-delete now w s e' allows.0 x place old old' store' alters deleted at current there allows.2.writer.bare seen
          (subst (λ k. ¬ IsLate w.history (start_now w.history allows.0) k) (sym same) allows.2.in_time)
          (λ o ne holds. allows.2.unheld o ne (subst (λ k. Holds w o k) same holds)) (agrees_now now w s e' allows.0 still at there) still)),
    )
