-- What writes put and alter, as readers see it; and what a session may take away.
use Rattle.std.proofs.Common.{◌≡◌, ◌≢◌, ℕ, Bool, true, false, Option, Some, None, refl, ap, inl, inr, arith, cond}
use Rattle.std.specs.Prelude.{◌==◌}
use Rattle.std.proofs.lemmas.Bool.{cases_Bool, cases_eq}
use Rattle.xid_circle.specs.declared.Tid.{Tid}
use Rattle.tuple_header.specs.declared.version.Row.{Row}
use Rattle.tuple_header.specs.Version.{Version}
use Rattle.tuple_header.specs.Marks.{is_frozen}
use Rattle.commit_status.specs.declared.status.Status.TheVariants.{Aborted}
use Rattle.commit_status.specs.Window as window
use Rattle.commit_status.proofs.Places.{upto-given}
use Rattle.tuple_writes.specs.Keeps.{IsMade, HasNoXmax}
use Rattle.tuple_writes.proofs.Bits.{replaced-frozen}
use Rattle.visibility.proofs.Makers.{is-inserter, is-deleter, committed-to, active-to, state-some}
use Rattle.heap_write.specs.Heap.{HeapView}
use Rattle.table_integrity.specs.Table.{MayDelete}
use Rattle.table_integrity.specs.Laws.{WritesUnder}
use Rattle.table_integrity.proofs.Places.{AddsAt, AltersAt, IsNewBy, taken_version}
use Rattle.history.specs.World.{World}
use Rattle.visibility.specs.Seeing.{deleter}
use Rattle.refinement.specs.Changes as change
use Rattle.refinement.specs.Finds.{Free}
use Rattle.refinement.proofs.Readers.{IsNew, IsDeleted}
use Rattle.refinement.proofs.Targets as targets
use Rattle.sessions.specs.declared.session.Session.{Session}
use Rattle.session_steps.specs.State.{State, session_at, seen, reader_of}
use Rattle.session_steps.specs.Agrees.{Agrees}
use Rattle.session_steps.proofs.Owns.{reader-is}
use Rattle.session_steps.proofs.Searches.{IsTarget}

pub adds-from : (store store' : Tid → Option Version) (q : Tid) (new : Version) → AddsAt store store' q new → change.AddsVersion store store' q new
adds-from store store' q new a = record { here = a.here; unused = a.unused; others = a.others }

pub alters-from : (store store' : Tid → Option Version) (p : Tid) (old new : Version) → AltersAt store store' p old new → change.Alters store store' p old new
alters-from store store' p old new a = record { before = a.before; here = a.here; others = a.others }

pub no-deleter : (v : Version) → v.header.xmax.0 ≡ 0 → deleter v.header ≡ None
no-deleter v none = of (v.header.xmax.0 == 0) refl
  where
    of : (b : Bool) → (v.header.xmax.0 == 0) ≡ b → cond b None (Some v.header.xmax.0) ≡ None
    of true is = refl
    of false is = absurd (let yes' : (v.header.xmax.0 == 0) ≡ true = ap (λ n. n == 0) none in cc)

pub is-new : (x : ℕ) (row : Row) (v : Version) → IsNewBy x row v → IsNew x v
is-new x row v n = record {
  made = is-inserter v.header x (λ frozen. let thawed = n.thawed in cc) n.inserter;
  kept = no-deleter v n.undeleted;
}

-- an id in progress is a normal one
pub normal-active : (w : window.Window) (x : ℕ) → window.IsActive w x → x ≢ 0
normal-active w x active is = absurd (let normal = (upto-given w x active.is_given).normal in omega (arith, is))

pub is-deleted : (w : window.Window) (x : ℕ) (t : Version) (successor : Tid) (hot : Bool) → window.IsActive w x → IsDeleted x t (taken_version t x successor hot)
is-deleted w x t successor hot active = record {
  same_row = refl;
  same_maker = ap (λ b. cond b None (Some t.header.xmin.0)) (replaced-frozen t.header x successor.page successor.slot hot);
  by = is-deleter (taken_version t x successor hot).header x (normal-active w x active) refl;
}

-- The writer.

pub is-writer : (st : State) (w : World) (s : ℕ) (e : Session) (h : HeapView) → Agrees st w → session_at st s ≡ Some e → window.IsWindow h.statuses → WritesUnder st.heap h e.own
is-writer st w s e h agrees at after = record {
  before = agrees.sound.window;
  after = after;
  active = λ x mine. active-to st.heap.statuses x ((agrees.found.opened s (reader_of e) (reader-is st s e at)).2.own_active x mine);
}

-- What a session may write, it may take away.

is-made : (st : State) (w : World) (s : ℕ) (e : Session) (key : ℕ) (p : Tid) (t : Version) → Agrees st w → session_at st s ≡ Some e → IsTarget st e key p t → IsMade st.heap.statuses t.header
is-made st w s e key p t agrees at target = elim (cases_Bool (is_frozen t.header)) [
  | inl frozen ↦ inl frozen
  | inr thawed ↦ elim (targets.maker_of (seen st) (reader_of e) t target.seen t.header.xmin.0 (is-inserter t.header t.header.xmin.0 (λ frozen. cc) refl)) [
    | inl done ↦ inr (inl (committed-to st.heap.statuses t.header.xmin.0 done))
    | inr own ↦ inr (inr (active-to st.heap.statuses t.header.xmin.0 ((agrees.found.opened s (reader_of e) (reader-is st s e at)).2.own_active t.header.xmin.0 own)).unfinished)
  ]
]

untaken : (st : State) (w : World) (s : ℕ) (e : Session) (key : ℕ) (found : Option Row) (p : Tid) (t : Version) → Agrees st w → Free (seen st) s (reader_of e) key found → IsTarget st e key p t → HasNoXmax st.heap.statuses t.header
untaken st w s e key found p t agrees free target = elim (cases_eq t.header.xmax.0 0) [
  | inl none ↦ inl none
  | inr some ↦ inr (state-some st.heap.statuses t.header.xmax.0 Aborted
      (targets.untaken_of (seen st) w s (reader_of e) key found p t free agrees.found target.there target.of_key target.seen t.header.xmax.0 (is-deleter t.header t.header.xmax.0 some refl))).1
]

pub may-take : (st : State) (w : World) (s : ℕ) (e : Session) (key : ℕ) (found : Option Row) (p : Tid) (t : Version) → Agrees st w → session_at st s ≡ Some e
    → Free (seen st) s (reader_of e) key found → IsTarget st e key p t → MayDelete st.heap p t
may-take st w s e key found p t agrees at free target = record {
  there = target.there;
  made = is-made st w s e key p t agrees at target;
  untaken = untaken st w s e key found p t agrees free target;
}
