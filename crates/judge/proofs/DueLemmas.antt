-- What the plain program refuses is due.
use Rattle.std.proofs.Common.{◌≡◌, ℕ, ◌<◌, ◌≤◌, length, Option, Some, None, Bool, true, false, inl, inr, refl, sym, ◌∙◌, subst, arith}
use Rattle.std.specs.Prelude.{IsSome, IsTrue, ◌↔◌, ℤ}
use Rattle.std.proofs.lemmas.Bool.{cases_lt}
use Rattle.std.proofs.lemmas.Option.{same_Some}
use Rattle.tuple_header.specs.declared.version.TheConstants.{MOST_BODY}
use Rattle.history.specs.World.{World, OpenSession, ClosesRing, MayIndex, world_sessions}
use Rattle.calls.specs.declared.step.Step.{Step}
use Rattle.calls.specs.declared.step.Step.TheVariants as step
use Rattle.calls.specs.declared.reply.Reply.TheVariants as reply
use Rattle.calls.specs.declared.reply.Refusal.{Refusal}
use Rattle.calls.specs.declared.reply.Refusal.TheVariants as refusal
use Rattle.calls.specs.Words.{RowToWrite, FitsRow}
use Rattle.calls.specs.Bars.{BarsOpen, BarsReady, BarsFree, BarsWithCursor}
use Rattle.calls.proofs.BarsLemmas.{of_open, of_ready, of_free, of_with_cursor}
use Rattle.refinement.specs.Allowed.{AllowsReply, savepoints}
use Rattle.one_answer.specs.OneAnswer.{IsDue}
use Rattle.plain_history.specs.declared.refusal.Refused.{Refused}
use Rattle.plain_history.specs.declared.refusal.Refused.TheVariants.{By}
use Rattle.plain_history.specs.declared.refusal.Refused.TheVariants as refused
use Rattle.plain_history.specs.Answers.{RefusesBegin, RefusesInsert, RefusesReplace, MaySave, RefusesSave, MayRollBack, RefusesRollBack, MayRelease, RefusesRelease, RefusesIndex, RefusesBounds, RefusesMaking}
use Rattle.snapshot.specs.declared.own.TheConstants.{MOST_SAVEPOINTS}
use Rattle.judge.specs.Rulings.{refusal_of}

-- the refusal is the one answer
abbrev pub IsDueAt : World → Step → Refusal → Type 0
IsDueAt w step r = AllowsReply w step (reply.Refused r) × IsDue (reply.Refused r)

-- of a session that is open
opened_as : {A : Type 0} (o : Option A) → IsSome o → (m : A) × (o ≡ Some m)
opened_as None some = absurd (cc)
opened_as (Some m) some = (m, refl)

pub begin_refused : (w : World) (s : ℕ) (r : Refusal) → RefusesBegin w s r → IsDueAt w (step.Begin s) r
begin_refused w s refusal.NoSuchSession is = (is, λ x. x)
begin_refused w s refusal.AlreadyOpen is = (let open_ = opened_as (w.session s) is.1 in (open_.0, open_.1, is.0), λ x. x)
begin_refused w s _ is = absurd is

pub begin_read_committed_refused : (w : World) (s : ℕ) (r : Refusal) → RefusesBegin w s r → IsDueAt w (step.BeginReadCommitted s) r
begin_read_committed_refused w s refusal.NoSuchSession is = (is, λ x. x)
begin_read_committed_refused w s refusal.AlreadyOpen is = (let open_ = opened_as (w.session s) is.1 in (open_.0, open_.1, is.0), λ x. x)
begin_read_committed_refused w s _ is = absurd is

pub get_refused : (w : World) (s k : ℕ) (r : Refusal) → BarsReady (world_sessions w) s r → IsDueAt w (step.Get s k) r
get_refused w s k r is = of_ready (world_sessions w) s (IsDueAt w (step.Get s k)) (λ is. (is, λ x. x)) (λ is. (is, λ x. x)) (λ is. (is, λ x. x)) r is

pub insert_barred : (w : World) (s : ℕ) (row : RowToWrite) (r : Refusal) → BarsFree (world_sessions w) s r → IsDueAt w (step.Insert s row) r
insert_barred w s row r is = of_free (world_sessions w) s (IsDueAt w (step.Insert s row)) (λ is. (is, λ x. x)) (λ is. (is, λ x. x)) (λ is. (is, λ x. x)) (λ is. (is, λ x. x)) r is

pub update_barred : (w : World) (s : ℕ) (row : RowToWrite) (r : Refusal) → BarsFree (world_sessions w) s r → IsDueAt w (step.Update s row) r
update_barred w s row r is = of_free (world_sessions w) s (IsDueAt w (step.Update s row)) (λ is. (is, λ x. x)) (λ is. (is, λ x. x)) (λ is. (is, λ x. x)) (λ is. (is, λ x. x)) r is

-- no wait closes a ring, of whichever session it is
no_ring : (w : World) (s o : ℕ) → ¬ ClosesRing w.waits_for s o → (t : ℕ) → Some s ≡ Some t → ¬ ClosesRing w.waits_for t o
no_ring w s o none t same closes = none (subst (λ s. ClosesRing w.waits_for s o) (sym (same_Some s t same)) closes)

pub insert_refused : (w : World) (s : ℕ) (row : RowToWrite) (why : Refused) → FitsRow row → RefusesInsert w s row.key why → IsDueAt w (step.Insert s row) (refusal_of why)
insert_refused w s row (By refusal.AlreadyThere) fits is = ((is.0, is.1, fits, is.2), λ x. x)
insert_refused w s row (By refusal.Conflict) fits is = ((is.0, is.1, (fits, is.2), is.3), λ x. x)
insert_refused w s row (By (refusal.Busy o)) fits is = (((is.0, (fits, is.2), is.3.0), no_ring w s o is.3.1), λ x. x)
insert_refused w s row refused.Deadlock fits is = ((s, is.3.0, refl, (is.0, (fits, is.2), is.3.1), is.3.2), λ x. x)
insert_refused w s row (By r) fits is = insert_barred w s row r is

pub update_refused : (w : World) (s : ℕ) (row : RowToWrite) (why : Refused) → FitsRow row → RefusesReplace w s row.key why → IsDueAt w (step.Update s row) (refusal_of why)
update_refused w s row (By refusal.NotThere) fits is = ((is.0, is.1, fits, is.2), λ x. x)
update_refused w s row (By refusal.Conflict) fits is = ((is.0, is.1, (fits, is.2), is.3), λ x. x)
update_refused w s row (By (refusal.Busy o)) fits is = (((is.0, (fits, is.2), is.3.0), no_ring w s o is.3.1), λ x. x)
update_refused w s row refused.Deadlock fits is = ((s, is.3.0, refl, (is.0, (fits, is.2), is.3.1), is.3.2), λ x. x)
update_refused w s row (By r) fits is = update_barred w s row r is

-- a transaction ends

pub abort_refused : (w : World) (s : ℕ) (r : Refusal) → BarsOpen (world_sessions w) s r → IsDueAt w (step.Abort s) r
abort_refused w s r is = of_open (world_sessions w) s (IsDueAt w (step.Abort s)) (λ is. (is, λ x. x)) (λ is. (is, λ x. x)) r is

pub aborts : (w : World) (s : ℕ) → IsSome (w.session s) → AllowsReply w (step.Abort s) reply.RolledBack
aborts w s some = opened_as (w.session s) some

pub fits_when : (b : Bool) (row : RowToWrite) → (IsTrue b ↔ (MOST_BODY < length row.body)) → b ≡ false → FitsRow row
fits_when b row says isnt = elim (cases_lt MOST_BODY (length row.body)) [
  | inl lt ↦ (let was : b ≡ true = says.1 lt in let never : true ≡ false = sym was ∙ isnt in absurd (cc))
  | inr le ↦ le
]

-- savepoints

some_levels : (m : OpenSession) → 1 < length m.levels → 0 < savepoints m
some_levels m some = omega arith

no_levels : (m : OpenSession) → length m.levels ≤ 1 → savepoints m ≡ 0
no_levels m none = omega arith

few_levels : (m : OpenSession) → length m.levels ≤ 32 → savepoints m < MOST_SAVEPOINTS
few_levels m few = omega arith

all_levels : (m : OpenSession) → 32 < length m.levels → MOST_SAVEPOINTS ≤ savepoints m
all_levels m many = omega arith

pub savepoint_refused : (w : World) (s : ℕ) (r : Refusal) → RefusesSave w s r → IsDueAt w (step.Savepoint s) r
savepoint_refused w s refusal.TooDeep is = ((is.0, is.1, all_levels is.0 is.2), λ x. x)
savepoint_refused w s r is = of_free (world_sessions w) s (IsDueAt w (step.Savepoint s)) (λ is. (is, λ x. x)) (λ is. (is, λ x. x)) (λ is. (is, λ x. x)) (λ is. (is, λ x. x)) r is

pub savepoint_taken : (w : World) (s : ℕ) → MaySave w s → AllowsReply w (step.Savepoint s) reply.Done
savepoint_taken w s may = (may.0, may.1, few_levels may.0 may.2)

pub rollback_to_refused : (w : World) (s : ℕ) (r : Refusal) → RefusesRollBack w s r → IsDueAt w (step.RollbackTo s) r
rollback_to_refused w s refusal.CursorOpen is = (is, λ x. x)
rollback_to_refused w s refusal.NoSavepoint is = ((is.0, is.1, is.2, no_levels is.0 is.3), λ x. x)
rollback_to_refused w s r is = of_open (world_sessions w) s (IsDueAt w (step.RollbackTo s)) (λ is. (is, λ x. x)) (λ is. (is, λ x. x)) r is

pub rollback_to_taken : (w : World) (s : ℕ) → MayRollBack w s → AllowsReply w (step.RollbackTo s) reply.Done
rollback_to_taken w s may = (may.0, may.1, may.2, some_levels may.0 may.3)

pub release_refused : (w : World) (s : ℕ) (r : Refusal) → RefusesRelease w s r → IsDueAt w (step.Release s) r
release_refused w s refusal.NoSavepoint is = ((is.0, is.1, no_levels is.0 is.2), λ x. x)
release_refused w s r is = of_free (world_sessions w) s (IsDueAt w (step.Release s)) (λ is. (is, λ x. x)) (λ is. (is, λ x. x)) (λ is. (is, λ x. x)) (λ is. (is, λ x. x)) r is

pub release_taken : (w : World) (s : ℕ) → MayRelease w s → AllowsReply w (step.Release s) reply.Done
release_taken w s may = (may.0, may.1, some_levels may.0 may.2)

-- cursors

pub open_index_refused : (w : World) (s index : ℕ) (low high : ℤ) (r : Refusal) → RefusesIndex w s index low high r → IsDueAt w (step.OpenIndex s index low high) r
open_index_refused w s index low high refusal.NoSuchIndex is = (is, λ x. x)
open_index_refused w s index low high refusal.IndexTooNew is = (is, λ x. x)
open_index_refused w s index low high refusal.BadBounds is = (is, λ x. x)
open_index_refused w s index low high r is = of_free (world_sessions w) s (IsDueAt w (step.OpenIndex s index low high)) (λ is. (is, λ x. x)) (λ is. (is, λ x. x)) (λ is. (is, λ x. x)) (λ is. (is, λ x. x)) r is

pub open_heap_refused : (w : World) (s : ℕ) (r : Refusal) → BarsFree (world_sessions w) s r → IsDueAt w (step.OpenHeap s) r
open_heap_refused w s r is = of_free (world_sessions w) s (IsDueAt w (step.OpenHeap s)) (λ is. (is, λ x. x)) (λ is. (is, λ x. x)) (λ is. (is, λ x. x)) (λ is. (is, λ x. x)) r is

pub open_keys_refused : (w : World) (s : ℕ) (low high : ℤ) (r : Refusal) → RefusesBounds w s low high r → IsDueAt w (step.OpenKeys s low high) r
open_keys_refused w s low high refusal.BadBounds is = (is, λ x. x)
open_keys_refused w s low high r is = of_free (world_sessions w) s (IsDueAt w (step.OpenKeys s low high)) (λ is. (is, λ x. x)) (λ is. (is, λ x. x)) (λ is. (is, λ x. x)) (λ is. (is, λ x. x)) r is

pub close_refused : (w : World) (s : ℕ) (r : Refusal) → BarsWithCursor (world_sessions w) s r → IsDueAt w (step.Close s) r
close_refused w s r is = of_with_cursor (world_sessions w) s (IsDueAt w (step.Close s)) (λ is. (is, λ x. x)) (λ is. (is, λ x. x)) (λ is. (is, λ x. x)) (λ is. (is, λ x. x)) r is

-- the bounds as they are passed on

pub open_index_refused_by : (w : World) (s index : ℕ) (low high low' high' : ℤ) (r : Refusal) → low' ≡ low → high' ≡ high → RefusesIndex w s index low' high' r → IsDueAt w (step.OpenIndex s index low high) r
open_index_refused_by w s index low high low' high' r same same' is =
    open_index_refused w s index low high r (subst (λ l. RefusesIndex w s index l high r) same (subst (λ h. RefusesIndex w s index low' h r) same' is))

pub open_keys_refused_by : (w : World) (s : ℕ) (low high low' high' : ℤ) (r : Refusal) → low' ≡ low → high' ≡ high → RefusesBounds w s low' high' r → IsDueAt w (step.OpenKeys s low high) r
open_keys_refused_by w s low high low' high' r same same' is =
    open_keys_refused w s low high r (subst (λ l. RefusesBounds w s l high r) same (subst (λ h. RefusesBounds w s low' h r) same' is))

-- the making of an index

pub never_made : (w : World) (c : ℕ) (r : Refusal) → RefusesMaking w c r → MayIndex w c → ⊥
never_made w c refusal.NoSuchIndex is may = let lt : c < 4 = may.0 in omega arith
never_made w c refusal.IndexBusy is may = may.1 is.0.1 is.1
never_made w c _ is may = is
