-- What an open session sees, and nobody has deleted, nobody else has written since.
use Rattle.std.proofs.Common.{◌≡◌, ℕ, List, Option, Some, None, refl, sym, ◌∙◌, subst}
use Rattle.std.specs.Prelude.{IsSome, Contains}
use Rattle.std.proofs.lemmas.Option.{same_Some, none-some}
use Rattle.xid_circle.specs.declared.Tid.{Tid}
use Rattle.tuple_header.specs.Version.{Version}
use Rattle.commit_status.specs.declared.status.Status.{Status}
use Rattle.history.specs.History.{Transaction}
use Rattle.history.specs.World.{World, OpenSession, own_write, Holds, start_now, joined}
use Rattle.refinement.specs.Heap.{SeenSession, Heap, StatementSees, CursorSees}
use Rattle.visibility.specs.Seeing.{HasCommitted, IsRunning, Reads, by_itself, by_others, VisibleBy, Touches, made_by, deleted_by, inserter, deleter}
use Rattle.refinement.specs.Visible.{ReaderSees, At}
use Rattle.refinement.specs.Agrees.{SessionAgrees, HeapAgrees}
use Rattle.refinement.specs.Laws.{heap_over, MeetsNone, UndeletedIsUncontested}
use Rattle.refinement.proofs.Readers.{Levels-top}
use Rattle.refinement.proofs.Traces.{SparesCurrent}
use Rattle.refinement.proofs.Steps.{own_traced}
use Rattle.refinement.proofs.Isolations.{running_uncommitted}

-- A session has not written the key of a current version that none of its ids touched. Did it see who made it, it would see the
-- version, and it sees none but its own of a key that it has written. Did it not, the key would be late
pub spares_current : {status : ℕ → Option Status} {store : Tid → Option Version} {history : List Transaction} {sees cursor_sees : ℕ → Type 0} {start : ℕ} {e : SeenSession} {m : OpenSession}
    → SessionAgrees status store history sees start cursor_sees e m → SparesCurrent status store e.own (joined m.levels)
spares_current {status} {store} {history} {sees} {cursor_sees} {start} {e} {m} mine p v at current untouched wrote = of (inserter v.header) refl
  where
    unread : (y : ℕ) → deleter v.header ≡ Some y → ¬ Reads status sees e.own y
    unread y is (by_itself own) = untouched y own (deleted_by is)
    unread y is (by_others seen done) = current.kept y is done

    unseen : ¬ ((x : ℕ) → inserter v.header ≡ Some x → sees x)
    unseen seen =
        let own = (Levels-top e.own e.saved m.levels mine.levels).covers p v at (record { made = λ x is. by_others (seen x is) (current.made x is); kept = unread }) wrote in
        untouched own.0 own.2 (made_by own.1)

    of : (o : Option ℕ) → inserter v.header ≡ o → ⊥
    of None is = unseen (λ x maker. absurd (none-some x (sym is ∙ maker)))
    of (Some x) is = mine.in_time v.row.key wrote
        (mine.traces.missed_late p v at (x, (made_by is, current.made x is, λ seen. unseen (λ y maker. subst sees (same_Some x y (sym is ∙ maker)) seen))))

module _ (h : Heap) (w : World) (s : ℕ) (e : SeenSession) (m : OpenSession) (p : Tid) (v : Version) (agrees : HeapAgrees h w) (at : h.session s ≡ Some e) (there : w.session s ≡ Some m)
    (stands : At h.version p v) (seen : ReaderSees h.status (StatementSees h e.isolation) e.own v) (plain : deleter v.header ≡ None) where
  mine : SessionAgrees h.status h.version w.history (StatementSees h e.isolation) (start_now w.history m) (CursorSees h e.isolation) e m
  mine = let open_ = agrees.opened s e at in
      subst (λ (n : OpenSession). SessionAgrees h.status h.version w.history (StatementSees h e.isolation) (start_now w.history n) (CursorSees h e.isolation) e n) (same_Some open_.0 m (sym open_.1 ∙ there)) open_.2

  -- who made it has committed and is seen, or it is frozen and names nobody
  of_others : ((x : ℕ) → inserter v.header ≡ Some x → HasCommitted h.status x) → ((x : ℕ) → inserter v.header ≡ Some x → StatementSees h e.isolation x) → MeetsNone w s v.row.key m
  of_others done sees = record {
    in_time = mine.traces.timely p v stands current sees;
    unheld = λ o ne holds. unheld o holds (h.session o) refl;
  }
    where
      current : VisibleBy (HasCommitted h.status) v.header
      current = record { made = done; kept = λ y is. absurd (none-some y (sym plain ∙ is)) }

      unheld : (o : ℕ) → Holds w o v.row.key → (f : Option SeenSession) → h.session o ≡ f → ⊥
      unheld o holds None is = none-some holds.0 (sym (agrees.idle o is) ∙ holds.1)
      unheld o holds (Some f) is =
          let open_ = agrees.opened o f is in
          spares_current open_.2 p v stands current (λ x own touch. foreign x (open_.2.own_active x own) touch)
          (subst (λ (n : OpenSession). IsSome (own_write n v.row.key)) (same_Some holds.0 open_.0 (sym holds.1 ∙ open_.1)) holds.2)
        where
          foreign : (x : ℕ) → IsRunning h.status x → ¬ Touches x v.header
          foreign x active (made_by is) = running_uncommitted h.status x active (done x is)
          foreign x active (deleted_by is) = none-some x (sym plain ∙ is)

  -- or the session made it itself, and so holds the key
  of_itself : (x : ℕ) → inserter v.header ≡ Some x → Contains e.own x → MeetsNone w s v.row.key m
  of_itself x is own = record {
    in_time = mine.in_time v.row.key wrote;
    unheld = λ o ne holds. ne (agrees.alone o s v.row.key holds (m, there, wrote));
  }
    where
      wrote : IsSome (own_write m v.row.key)
      wrote = (own_traced mine).there_written p v stands (x, made_by is, own)

  pub uncontested : MeetsNone w s v.row.key m
  uncontested = of (inserter v.header) refl
    where
      of : (o : Option ℕ) → inserter v.header ≡ o → MeetsNone w s v.row.key m
      of None is = of_others (λ x maker. absurd (none-some x (sym is ∙ maker))) (λ x maker. absurd (none-some x (sym is ∙ maker)))
      of (Some x) is = elim (seen.made x is) [
        | by_itself own ↦ of_itself x is own
        | by_others sees done ↦ of_others (λ y maker. subst (λ z. HasCommitted h.status z) (same_Some x y (sym is ∙ maker)) done) (λ y maker. subst (λ z. StatementSees h e.isolation z) (same_Some x y (sym is ∙ maker)) sees)
      ]

pub undeleted_is_uncontested : UndeletedIsUncontested
undeleted_is_uncontested ids version session w agrees s e m at there p v stands seen plain =
    uncontested (heap_over ids version session) w s e m p v agrees at there stands seen plain
