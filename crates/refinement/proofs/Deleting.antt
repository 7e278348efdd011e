-- A session deletes a version that it sees.
use Rattle.std.proofs.Common.{◌≡◌, ◌≢◌, ℕ, Option, Some, None, refl, sym, ap, ◌∙◌, subst, inl, inr}
use Rattle.std.specs.Prelude.{IsSome}
use Rattle.std.proofs.lemmas.Bool.{cases_eq}
use Rattle.std.proofs.lemmas.Option.{same_Some, none-some}
use Rattle.xid_circle.specs.declared.Tid.{Tid}
use Rattle.tuple_header.specs.Version.{Version}
use Rattle.commit_status.specs.declared.status.Status.TheVariants.{InProgress}
use Rattle.history.specs.History.{Write, written, IsLate}
use Rattle.history.specs.World.{World, OpenSession, joined, own_write, Holds, start_now}
use Rattle.history.specs.Moves.{put, with_write}
use Rattle.history.proofs.HistoryLemmas.{at_same, at_other, joined-add_write}
use Rattle.refinement.specs.Heap.{SeenSession, Heap, StatementSees, CursorSees}
use Rattle.visibility.specs.Seeing.{HasCommitted, IsRunning, by_others, VisibleBy, Touches, made_by, deleted_by, deleter}
use Rattle.refinement.specs.Visible.{ReaderSees}
use Rattle.refinement.specs.Changes.{Alters}
use Rattle.refinement.specs.Agrees.{SessionAgrees, HeapAgrees}
use Rattle.refinement.proofs.ShowsLemmas.{Shows-alter_same}
use Rattle.refinement.proofs.Statuses.{some_of}
use Rattle.refinement.proofs.Versions.{Alters-cases}
use Rattle.refinement.proofs.Readers.{IsDeleted, wrote_before}
use Rattle.refinement.proofs.Others.{SessionAgrees-delete_other}
use Rattle.refinement.proofs.Itself.{IsCurrent, SessionAgrees-delete}
use Rattle.refinement.proofs.SessionsLemmas.{Matches, opened-change, idle-change, alone-change}
use Rattle.refinement.proofs.Steps.{own_traced}
use Rattle.refinement.proofs.Isolations.{running_uncommitted}

-- the version is deleted under an id that the session has
pub Agrees-delete : (h : Heap) (w : World) (s : ℕ) (e : SeenSession) (m : OpenSession) (x : ℕ) (place : Tid) (old new : Version) (store' : Tid → Option Version)
    → Alters h.version store' place old new → IsDeleted x old new → h.session s ≡ Some e → IsCurrent e x → w.session s ≡ Some m → m.cursor ≡ None
    → ReaderSees h.status (StatementSees h e.isolation) e.own old → ¬ IsLate w.history (start_now w.history m) old.row.key → ((o : ℕ) → o ≢ s → ¬ Holds w o old.row.key)
    → SessionAgrees h.status h.version w.history (StatementSees h e.isolation) (start_now w.history m) (CursorSees h e.isolation) e m
    → HeapAgrees h w → HeapAgrees (record h { version = store' }) (put w s (Some (with_write w.history old.row.key None m)))
Agrees-delete h w s e m x place old new store' alters deleted at current there bare seen in_time unheld mine agrees = record {
  opened = opened-change h h' w w' s agrees (λ o ne. refl) models
      (λ o f n ne bt there' theirs. SessionAgrees-delete_other x place old new alters deleted active (λ foreign. ne (agrees.apart o s f e x bt at foreign current.mine))
      (record {
        uncommitted = dead;
        foreign = λ y is held. unheld o ne (n, there', (own_traced theirs).there_written place old alters.before (y, deleted_by is, held));
      }) theirs)
      (λ e' at'. let is : e ≡ e' = same_Some e e' (sym at ∙ at') in
      subst (λ e. Matches h' w' s e) is
      (with_write w.history old.row.key None m, at_same s (Some (with_write w.history old.row.key None m)) (w.session s), SessionAgrees-delete x place old new alters deleted current bare seen in_time dead mine));
  idle = idle-change h h' w w' s agrees (λ o ne. refl) models (λ at'. absurd (none-some e (sym at' ∙ at)));
  current = Shows-alter_same alters deleted.same_row still before (λ p v bt seen. seen) (λ p v bt seen. seen) agrees.current;
  made = λ p y v bt is done. elim (Alters-cases alters p v bt) [
    | inl same ↦ (let by : deleter v.header ≡ Some x = ap (λ (u : Version). deleter u.header) same.1 ∙ deleted.by in absurd (not_by y (sym is ∙ by) done))
    | inr other ↦ agrees.made p y v other.1 is done
  ];
  given = λ p y v bt touch. elim (Alters-cases alters p v bt) [
    | inl same ↦ known y (subst (λ (u : Version). Touches y u.header) same.1 touch)
    | inr other ↦ agrees.given p y v other.1 touch
  ];
  owned = agrees.owned;
  apart = agrees.apart;
  alone = alone-change h h' w w' s agrees (λ o ne. refl) models (λ o k ne p q. elim (cases_eq k old.row.key) [
    | inl same ↦ unheld o ne (subst (λ k. Holds w o k) same q)
    | inr ne' ↦ (let is : p.0 ≡ with_write w.history old.row.key None m = same_Some p.0 (with_write w.history old.row.key None m) (sym p.1 ∙ at_same s (Some (with_write w.history old.row.key None m)) (w.session s)) in
        ne (agrees.alone o s k q (
          m,
          there,
          wrote_before (joined m.levels) write k ne'
              (subst (λ ws. IsSome (written ws k)) (joined-add_write write m.levels) (subst (λ m. IsSome (own_write m k)) is p.2)),
        )))
  ]);
}
  where
    write : Write
    write = record { start = start_now w.history m; key = old.row.key; row = None }

    h' : Heap
    h' = record h { version = store' }

    w' : World
    w' = put w s (Some (with_write w.history old.row.key None m))

    active : IsRunning h.status x
    active = mine.own_active x current.mine

    models : (o : ℕ) → o ≢ s → w'.session o ≡ w.session o
    models o ne = at_other o s (Some (with_write w.history old.row.key None m)) (w.session o) ne

    -- what deleted it before, if anything did, was rolled back
    dead : (y : ℕ) → deleter old.header ≡ Some y → ¬ HasCommitted h.status y
    dead y is done = in_time (mine.traces.missed_late place old alters.before (y, (deleted_by is, done, λ sees. seen.kept y is (by_others sees done))))

    not_by : (y : ℕ) → Some y ≡ Some x → ¬ HasCommitted h.status y
    not_by y is done = running_uncommitted h.status x active (subst (λ z. HasCommitted h.status z) (same_Some y x is) done)

    still : VisibleBy (HasCommitted h.status) old.header → VisibleBy (HasCommitted h.status) new.header
    still v = record { made = λ y is. v.made y (sym deleted.same_maker ∙ is); kept = λ y is done. not_by y (sym is ∙ deleted.by) done }

    before : VisibleBy (HasCommitted h.status) new.header → VisibleBy (HasCommitted h.status) old.header
    before v = record { made = λ y is. v.made y (deleted.same_maker ∙ is); kept = dead }

    known : (y : ℕ) → Touches y new.header → IsSome (h.status y)
    known y (made_by is) = agrees.given place y old alters.before (made_by (sym deleted.same_maker ∙ is))
    known y (deleted_by is) = subst (λ z. IsSome (h.status z)) (same_Some x y (sym deleted.by ∙ is)) (some_of InProgress (h.status x) active)
