-- The same of the steps that write no key.
use Rattle.std.proofs.Common.{◌≡◌, ℕ, suc, ◌<◌, ◌≤◌, Option, None, Bool, true, false, refl, sym, ap, ◌∙◌, subst, arith, inl, inr}
use Rattle.std.specs.Prelude.{IsSome, ℤ, ◌<ℤ◌, ◌≤ℤ◌}
use Rattle.std.proofs.lemmas.Int.{ints}
use Rattle.tuple_header.specs.declared.version.Row.{Row}
use Rattle.snapshot.specs.declared.own.TheConstants.{MOST_SAVEPOINTS}
use Rattle.history.specs.World.{World, OpenSession, SomeoneHasWritten, view}
use Rattle.history.specs.Laws.{HasFew}
use Rattle.calls.specs.declared.step.Step.{Step}
use Rattle.calls.specs.declared.step.Step.TheVariants as step
use Rattle.calls.specs.declared.step.TheConstants.{MOST_SESSIONS}
use Rattle.calls.specs.declared.reply.Reply.{Reply}
use Rattle.calls.specs.declared.reply.Reply.TheVariants as reply
use Rattle.calls.specs.declared.reply.Refusal.TheVariants as refusal
use Rattle.refinement.specs.Allowed.{savepoints, Allows, AllowsReply}
use Rattle.one_answer.specs.OneAnswer.{IsLeftOpen}
use Rattle.one_answer.proofs.Tests.{Agrees, left_taken, not_both, Or, agree-or, Last, agree-last, Only, agree-only, Opened, opened, agree-opened, bare, agree-bare, AsReady, AsFree, WithCursor, agree-ready, agree-free, agree-with_cursor, barred_open, barred_ready, barred_free, barred_with_cursor, past_ready, past_free, past_with_cursor}

-- It writes no key, so it is never Busy, and waits play no part.

abbrev pub WritesNone : Step → Type 0
WritesNone (step.Insert s row) = ⊥
WritesNone (step.Update s row) = ⊥
WritesNone (step.Delete s k) = ⊥
WritesNone step = Unit {0}

never_busy : (w : World) (step : Step) (o : ℕ) → WritesNone step → Allows w step (reply.Refused (refusal.Busy o)) → ⊥
never_busy w (step.Insert s row) o none is = none
never_busy w (step.Update s row) o none is = none
never_busy w (step.Delete s k) o none is = none
never_busy w _ o none is = is

pub plainly : (w : World) (step : Step) (a : Reply) → WritesNone step → AllowsReply w step a → Allows w step a
plainly w step (reply.Refused (refusal.Busy o)) none is = is.0
plainly w step (reply.Refused refusal.Deadlock) none is = absurd (never_busy w step is.1 none is.3)
plainly w step _ none is = is

-- what is allowed agrees, where the tests answer it
pub by_tests : (w : World) (step : Step) (Kind : Reply → Type 0) → WritesNone step → Agrees w step Kind → ((a : Reply) → Allows w step a → Kind a) → Agrees w step (AllowsReply w step)
by_tests w step Kind none agree answers a b x y = agree a b (answers a (plainly w step a none x)) (answers b (plainly w step b none y))

pub done : (w : World) (step : Step) → Agrees w step (Last w step reply.Done)
done w step = agree-last w step reply.Done tt

-- left open altogether
agree-left : (w : World) (step : Step) → Agrees w step (IsLeftOpen w step)
agree-left w step a b x y = inr (left_taken w step a x, left_taken w step b y, inl x)

-- Begin.

abbrev Begins : World → Step → ℕ → Reply → Type 0
Begins w step s a =
    Or (IsSome (w.session s)) (w.session s ≡ None) (reply.Refused refusal.AlreadyOpen) (Or (MOST_SESSIONS ≤ s) (s < MOST_SESSIONS) (reply.Refused refusal.NoSuchSession) (Last w step reply.Done)) a

agree-begins : (w : World) (step : Step) (s : ℕ) → Agrees w step (Begins w step s)
agree-begins w step s =
    agree-or w step (IsSome (w.session s)) (w.session s ≡ None) (reply.Refused refusal.AlreadyOpen) (Or (MOST_SESSIONS ≤ s) (s < MOST_SESSIONS) (reply.Refused refusal.NoSuchSession) (Last w step reply.Done))
    (not_both (w.session s))
    (agree-or w step (MOST_SESSIONS ≤ s) (s < MOST_SESSIONS) (reply.Refused refusal.NoSuchSession) (Last w step reply.Done) (λ far near. omega arith) (done w step))

pub agree-begin : (w : World) (s : ℕ) → HasFew w → Agrees w (step.Begin s) (AllowsReply w (step.Begin s))
agree-begin w s few = by_tests w (step.Begin s) (Begins w (step.Begin s) s) tt (agree-begins w (step.Begin s) s) answers
  where
    answers : (a : Reply) → Allows w (step.Begin s) a → Begins w (step.Begin s) s a
    answers reply.Done is = inr (is.1, inr (is.0, inl refl))
    answers (reply.Refused refusal.NoSuchSession) is = inr (few s is, inl (is, refl))
    answers (reply.Refused refusal.AlreadyOpen) is = inl (subst (λ o. IsSome o) (sym is.1) refl, refl)
    answers (reply.Refused refusal.NoMemory) is = inr (is.1, inr (is.0, inr tt))
    answers _ is = absurd is

pub agree-begin_read_committed : (w : World) (s : ℕ) → HasFew w → Agrees w (step.BeginReadCommitted s) (AllowsReply w (step.BeginReadCommitted s))
agree-begin_read_committed w s few = by_tests w (step.BeginReadCommitted s) (Begins w (step.BeginReadCommitted s) s) tt (agree-begins w (step.BeginReadCommitted s) s) answers
  where
    answers : (a : Reply) → Allows w (step.BeginReadCommitted s) a → Begins w (step.BeginReadCommitted s) s a
    answers reply.Done is = inr (is.1, inr (is.0, inl refl))
    answers (reply.Refused refusal.NoSuchSession) is = inr (few s is, inl (is, refl))
    answers (reply.Refused refusal.AlreadyOpen) is = inl (subst (λ o. IsSome o) (sym is.1) refl, refl)
    answers _ is = absurd is

-- Get.

pub agree-get : (w : World) (s k : ℕ) → HasFew w → Agrees w (step.Get s k) (AllowsReply w (step.Get s k))
agree-get w s k few = by_tests w (step.Get s k) (AsReady w s rest) tt (agree-ready w (step.Get s k) s rest few (λ m at. agree-only w (step.Get s k) (reply.Found (view w.history m k)))) answers
  where
    rest : OpenSession → Reply → Type 0
    rest m a = Only (reply.Found (view w.history m k)) a

    answers : (a : Reply) → Allows w (step.Get s k) a → AsReady w s rest a
    answers (reply.Found row) is = past_ready w s rest is.0 (reply.Found row) is.1 (ap (λ (o : Option Row). reply.Found o) is.2)
    answers (reply.Refused r) is = barred_ready w s rest r is
    answers _ is = absurd is

-- Savepoints.

pub agree-savepoint : (w : World) (s : ℕ) → HasFew w → Agrees w (step.Savepoint s) (AllowsReply w (step.Savepoint s))
agree-savepoint w s few = by_tests w (step.Savepoint s) (AsFree w s rest) tt (agree-free w (step.Savepoint s) s rest few (λ m at.
    agree-or w (step.Savepoint s) (MOST_SAVEPOINTS ≤ savepoints m) (savepoints m < MOST_SAVEPOINTS) (reply.Refused refusal.TooDeep) (Last w (step.Savepoint s) reply.Done)
    (λ full room. omega arith) (done w (step.Savepoint s)))) answers
  where
    rest : OpenSession → Reply → Type 0
    rest m a = Or (MOST_SAVEPOINTS ≤ savepoints m) (savepoints m < MOST_SAVEPOINTS) (reply.Refused refusal.TooDeep) (Last w (step.Savepoint s) reply.Done) a

    answers : (a : Reply) → Allows w (step.Savepoint s) a → AsFree w s rest a
    answers reply.Done is = past_free w s rest is.0 reply.Done is.1 (inr (is.2, inl refl))
    answers (reply.Refused refusal.TooDeep) is = past_free w s rest is.0 (reply.Refused refusal.TooDeep) is.1 (inl (is.2, refl))
    answers (reply.Refused refusal.NoMemory) is = past_free w s rest is.0 (reply.Refused refusal.NoMemory) is.1 (inr (is.2, inr tt))
    answers (reply.Refused r) is = barred_free w s rest r is
    answers _ is = absurd is

pub agree-rollback_to : (w : World) (s : ℕ) → HasFew w → Agrees w (step.RollbackTo s) (AllowsReply w (step.RollbackTo s))
agree-rollback_to w s few = by_tests w (step.RollbackTo s) (Opened w s (bare rest)) tt (agree-opened w (step.RollbackTo s) s (bare rest) few (agree-bare w (step.RollbackTo s) s rest (λ m at.
    agree-or w (step.RollbackTo s) (savepoints m ≡ 0) (0 < savepoints m) (reply.Refused refusal.NoSavepoint) (Last w (step.RollbackTo s) reply.Done) (λ zero_ some. omega arith) (done w (step.RollbackTo s))))) answers
  where
    rest : OpenSession → Reply → Type 0
    rest m a = Or (savepoints m ≡ 0) (0 < savepoints m) (reply.Refused refusal.NoSavepoint) (Last w (step.RollbackTo s) reply.Done) a

    answers : (a : Reply) → Allows w (step.RollbackTo s) a → Opened w s (bare rest) a
    answers reply.Done is = opened is.0 is.1 (inr (is.2, inr (is.3, inl refl)))
    answers (reply.Refused refusal.CursorOpen) is = opened is.0 is.1 (inl (is.2, refl))
    answers (reply.Refused refusal.NoSavepoint) is = opened is.0 is.1 (inr (is.2, inl (is.3, refl)))
    answers (reply.Refused r) is = barred_open w s (bare rest) r is
    answers _ is = absurd is

pub agree-release : (w : World) (s : ℕ) → HasFew w → Agrees w (step.Release s) (AllowsReply w (step.Release s))
agree-release w s few = by_tests w (step.Release s) (AsFree w s rest) tt (agree-free w (step.Release s) s rest few (λ m at.
    agree-or w (step.Release s) (savepoints m ≡ 0) (0 < savepoints m) (reply.Refused refusal.NoSavepoint) (Last w (step.Release s) reply.Done) (λ zero_ some. omega arith) (done w (step.Release s)))) answers
  where
    rest : OpenSession → Reply → Type 0
    rest m a = Or (savepoints m ≡ 0) (0 < savepoints m) (reply.Refused refusal.NoSavepoint) (Last w (step.Release s) reply.Done) a

    answers : (a : Reply) → Allows w (step.Release s) a → AsFree w s rest a
    answers reply.Done is = past_free w s rest is.0 reply.Done is.1 (inr (is.2, inl refl))
    answers (reply.Refused refusal.NoSavepoint) is = past_free w s rest is.0 (reply.Refused refusal.NoSavepoint) is.1 (inl (is.2, refl))
    answers (reply.Refused r) is = barred_free w s rest r is
    answers _ is = absurd is

-- The end of a transaction.

pub agree-commit : (w : World) (s : ℕ) → HasFew w → Agrees w (step.Commit s) (AllowsReply w (step.Commit s))
agree-commit w s few = by_tests w (step.Commit s) (Opened w s rest) tt (agree-opened w (step.Commit s) s rest few (λ m at.
    agree-or w (step.Commit s) (m.failed ≡ true) (m.failed ≡ false) reply.RolledBack (Only reply.Committed)
    (λ was isnt. let never : true ≡ false = sym was ∙ isnt in cc) (agree-only w (step.Commit s) reply.Committed))) answers
  where
    rest : OpenSession → Reply → Type 0
    rest m a = Or (m.failed ≡ true) (m.failed ≡ false) reply.RolledBack (Only reply.Committed) a

    answers : (a : Reply) → Allows w (step.Commit s) a → Opened w s rest a
    answers reply.Committed is = opened is.0 is.1.there (inr (is.1.sound, refl))
    answers reply.RolledBack is = opened is.0 is.1 (inl (is.2, refl))
    answers (reply.Refused r) is = barred_open w s rest r is
    answers _ is = absurd is

pub agree-abort : (w : World) (s : ℕ) → HasFew w → Agrees w (step.Abort s) (AllowsReply w (step.Abort s))
agree-abort w s few = by_tests w (step.Abort s) (Opened w s rest) tt (agree-opened w (step.Abort s) s rest few (λ m at. agree-only w (step.Abort s) reply.RolledBack)) answers
  where
    rest : OpenSession → Reply → Type 0
    rest m a = Only reply.RolledBack a

    answers : (a : Reply) → Allows w (step.Abort s) a → Opened w s rest a
    answers reply.RolledBack is = opened is.0 is.1 refl
    answers (reply.Refused r) is = barred_open w s rest r is
    answers _ is = absurd is

-- Cursors are opened and closed.

never_ordered : (low high : ℤ) → high <ℤ low → low ≤ℤ high → ⊥
never_ordered low high over within = omega (arith, ints)

pub agree-open_index : (w : World) (s index : ℕ) (low high : ℤ) → HasFew w → Agrees w (step.OpenIndex s index low high) (AllowsReply w (step.OpenIndex s index low high))
agree-open_index w s index low high few = by_tests w it (AsFree w s rest) tt (agree-free w it s rest few (λ m at.
    agree-or w it (w.has_index index ≡ false) (w.has_index index ≡ true) (reply.Refused refusal.NoSuchIndex) fresh (λ isnt was. let never : true ≡ false = sym was ∙ isnt in cc)
    (agree-or w it (w.too_new s index ≡ true) (w.too_new s index ≡ false) (reply.Refused refusal.IndexTooNew) ordered (λ was isnt. let never : true ≡ false = sym was ∙ isnt in cc)
    (agree-or w it (high <ℤ low) (low ≤ℤ high) (reply.Refused refusal.BadBounds) (Last w it reply.Done) (never_ordered low high) (done w it))))) answers
  where
    it : Step
    it = step.OpenIndex s index low high

    ordered : Reply → Type 0
    ordered a = Or (high <ℤ low) (low ≤ℤ high) (reply.Refused refusal.BadBounds) (Last w it reply.Done) a

    fresh : Reply → Type 0
    fresh a = Or (w.too_new s index ≡ true) (w.too_new s index ≡ false) (reply.Refused refusal.IndexTooNew) ordered a

    rest : OpenSession → Reply → Type 0
    rest m a = Or (w.has_index index ≡ false) (w.has_index index ≡ true) (reply.Refused refusal.NoSuchIndex) fresh a

    answers : (a : Reply) → Allows w it a → AsFree w s rest a
    answers reply.Done is = past_free w s rest is.0 reply.Done is.1 (inr (is.2.0, inr (is.2.1, inr (is.3, inl refl))))
    answers (reply.Refused refusal.NoSuchIndex) is = past_free w s rest is.0 (reply.Refused refusal.NoSuchIndex) is.1 (inl (is.2, refl))
    answers (reply.Refused refusal.IndexTooNew) is = past_free w s rest is.0 (reply.Refused refusal.IndexTooNew) is.1 (inr (is.2, inl (is.3, refl)))
    answers (reply.Refused refusal.BadBounds) is = past_free w s rest is.0 (reply.Refused refusal.BadBounds) is.1 (inr (is.2.0, inr (is.2.1, inl (is.3, refl))))
    answers (reply.Refused refusal.NoMemory) is = past_free w s rest is.0 (reply.Refused refusal.NoMemory) is.1 (inr (is.2.0, inr (is.2.1, inr (is.3, inr (is.0, is.1.ready.there, is.4)))))
    answers (reply.Refused r) is = barred_free w s rest r is
    answers _ is = absurd is

pub agree-open_heap : (w : World) (s : ℕ) → HasFew w → Agrees w (step.OpenHeap s) (AllowsReply w (step.OpenHeap s))
agree-open_heap w s few = by_tests w (step.OpenHeap s) (AsFree w s rest) tt (agree-free w (step.OpenHeap s) s rest few (λ m at. done w (step.OpenHeap s))) answers
  where
    rest : OpenSession → Reply → Type 0
    rest m a = Last w (step.OpenHeap s) reply.Done a

    answers : (a : Reply) → Allows w (step.OpenHeap s) a → AsFree w s rest a
    answers reply.Done is = past_free w s rest is.0 reply.Done is.1 (inl refl)
    answers (reply.Refused refusal.NoMemory) is = past_free w s rest is.0 (reply.Refused refusal.NoMemory) is.1 (inr (is.0, is.1.ready.there, is.2))
    answers (reply.Refused r) is = barred_free w s rest r is
    answers _ is = absurd is

pub agree-open_keys : (w : World) (s : ℕ) (low high : ℤ) → HasFew w → Agrees w (step.OpenKeys s low high) (AllowsReply w (step.OpenKeys s low high))
agree-open_keys w s low high few = by_tests w it (AsFree w s rest) tt (agree-free w it s rest few (λ m at.
    agree-or w it (high <ℤ low) (low ≤ℤ high) (reply.Refused refusal.BadBounds) (Last w it reply.Done) (never_ordered low high) (done w it))) answers
  where
    it : Step
    it = step.OpenKeys s low high

    rest : OpenSession → Reply → Type 0
    rest m a = Or (high <ℤ low) (low ≤ℤ high) (reply.Refused refusal.BadBounds) (Last w it reply.Done) a

    answers : (a : Reply) → Allows w it a → AsFree w s rest a
    answers reply.Done is = past_free w s rest is.0 reply.Done is.1 (inr (is.2, inl refl))
    answers (reply.Refused refusal.BadBounds) is = past_free w s rest is.0 (reply.Refused refusal.BadBounds) is.1 (inl (is.2, refl))
    answers (reply.Refused refusal.NoMemory) is = past_free w s rest is.0 (reply.Refused refusal.NoMemory) is.1 (inr (is.2, inr (is.0, is.1.ready.there, is.3)))
    answers (reply.Refused r) is = barred_free w s rest r is
    answers _ is = absurd is

pub agree-close : (w : World) (s : ℕ) → HasFew w → Agrees w (step.Close s) (AllowsReply w (step.Close s))
agree-close w s few = by_tests w (step.Close s) (WithCursor w s rest) tt (agree-with_cursor w (step.Close s) s rest few (λ m at. done w (step.Close s))) answers
  where
    rest : OpenSession → Reply → Type 0
    rest m a = Last w (step.Close s) reply.Done a

    answers : (a : Reply) → Allows w (step.Close s) a → WithCursor w s rest a
    answers reply.Done is = past_with_cursor w s rest is.0 reply.Done is.1 is.2 (inl refl)
    answers (reply.Refused r) is = barred_with_cursor w s rest r is
    answers _ is = absurd is

-- Pages.

pub agree-take_page : (w : World) (s p : ℕ) → HasFew w → Agrees w (step.TakePage s p) (AllowsReply w (step.TakePage s p))
agree-take_page w s p few = by_tests w (step.TakePage s p) (AsReady w s rest) tt (agree-ready w (step.TakePage s p) s rest few (λ m at. agree-left w (step.TakePage s p))) answers
  where
    rest : OpenSession → Reply → Type 0
    rest m a = IsLeftOpen w (step.TakePage s p) a

    answers : (a : Reply) → Allows w (step.TakePage s p) a → AsReady w s rest a
    answers (reply.Rows rows) is = past_ready w s rest is.0 (reply.Rows rows) is.1 tt
    answers (reply.Refused refusal.NoSuchPage) is = past_ready w s rest is.0 (reply.Refused refusal.NoSuchPage) is.1 tt
    answers (reply.Refused refusal.NoMemory) is = past_ready w s rest is.0 (reply.Refused refusal.NoMemory) is.1 tt
    answers (reply.Refused r) is = barred_ready w s rest r is
    answers _ is = absurd is

-- Cleaning, and the making of an index, which are no session's.

pub agree-prune : (w : World) (p : ℕ) → Agrees w (step.Prune p) (AllowsReply w (step.Prune p))
agree-prune w p = by_tests w (step.Prune p) (Last w (step.Prune p) reply.Done) tt (done w (step.Prune p)) answers
  where
    answers : (a : Reply) → Allows w (step.Prune p) a → Last w (step.Prune p) reply.Done a
    answers reply.Done is = inl refl
    answers (reply.Refused refusal.NoSuchPage) is = inr tt
    answers _ is = absurd is

-- whether a vacuum runs
abbrev pub Idles : World → (Reply → Type 0) → Reply → Type 0
Idles w rest a = Or (w.has_vacuum ≡ false) (w.has_vacuum ≡ true) (reply.Refused refusal.NoVacuum) rest a

pub not_both_runs : (runs : Bool) → runs ≡ false → runs ≡ true → ⊥
not_both_runs runs idle is = let never : false ≡ true = sym idle ∙ is in absurd (cc)

agree-idles : (w : World) (step : Step) (rest : Reply → Type 0) → Agrees w step rest → Agrees w step (Idles w rest)
agree-idles w step rest agree = agree-or w step (w.has_vacuum ≡ false) (w.has_vacuum ≡ true) (reply.Refused refusal.NoVacuum) rest (not_both_runs w.has_vacuum) agree

pub agree-vacuum_step : (w : World) → Agrees w step.VacuumStep (AllowsReply w step.VacuumStep)
agree-vacuum_step w = by_tests w step.VacuumStep (Idles w (IsLeftOpen w step.VacuumStep)) tt (agree-idles w step.VacuumStep (IsLeftOpen w step.VacuumStep) (agree-left w step.VacuumStep)) answers
  where
    answers : (a : Reply) → Allows w step.VacuumStep a → Idles w (IsLeftOpen w step.VacuumStep) a
    answers (reply.Worked piece) is = inr (is, tt)
    answers (reply.Ended first) is = inr (is, tt)
    answers (reply.Refused refusal.NoVacuum) is = inl (is, refl)
    answers _ is = absurd is

pub agree-vacuum_cancel : (w : World) → Agrees w step.VacuumCancel (AllowsReply w step.VacuumCancel)
agree-vacuum_cancel w = by_tests w step.VacuumCancel (Idles w (Only reply.Done)) tt (agree-idles w step.VacuumCancel (Only reply.Done) (agree-only w step.VacuumCancel reply.Done)) answers
  where
    answers : (a : Reply) → Allows w step.VacuumCancel a → Idles w (Only reply.Done) a
    answers reply.Done is = inr (is, refl)
    answers (reply.Refused refusal.NoVacuum) is = inl (is, refl)
    answers _ is = absurd is

pub agree-create_index : (w : World) (c : ℕ) → Agrees w (step.CreateIndex c) (AllowsReply w (step.CreateIndex c))
agree-create_index w c = by_tests w it tests tt
    (agree-or w it (3 < c) (c < 4) (reply.Refused refusal.NoSuchIndex) (Or IsBarred (¬ IsBarred) (reply.Refused refusal.VacuumRunning) busy) (λ far near. omega arith)
    (agree-or w it IsBarred (¬ IsBarred) (reply.Refused refusal.VacuumRunning) busy (λ barred isnt. isnt barred)
    (agree-or w it IsBusy (¬ IsBusy) (reply.Refused refusal.IndexBusy) (Last w it reply.Done) (λ is isnt. isnt is) (done w it)))) answers
  where
    it : Step
    it = step.CreateIndex c

    -- the index would be made, and a vacuum runs
    IsBarred : Type 0
    IsBarred = (w.has_index (suc c) ≡ false) × (w.has_vacuum ≡ true)

    -- or somebody has written
    IsBusy : Type 0
    IsBusy = (w.has_index (suc c) ≡ false) × SomeoneHasWritten w

    busy : Reply → Type 0
    busy a = Or IsBusy (¬ IsBusy) (reply.Refused refusal.IndexBusy) (Last w it reply.Done) a

    tests : Reply → Type 0
    tests a = Or (3 < c) (c < 4) (reply.Refused refusal.NoSuchIndex) (Or IsBarred (¬ IsBarred) (reply.Refused refusal.VacuumRunning) busy) a

    not_barred : w.has_vacuum ≡ false → ¬ IsBarred
    not_barred idle barred = not_both_runs w.has_vacuum idle barred.1

    not_busy : ¬ SomeoneHasWritten w → ¬ IsBusy
    not_busy none is = none is.1

    answers : (a : Reply) → Allows w it a → tests a
    answers reply.Done is = inr (is.0.0, inr (λ barred. not_barred (is.1 barred.0) barred, inr (λ busy. not_busy (is.0.1 busy.0) busy, inl refl)))
    answers (reply.Refused refusal.NoSuchIndex) is = inl (is, refl)
    answers (reply.Refused refusal.VacuumRunning) is = inr (is.0.0, inl ((is.0.1, is.1), refl))
    answers (reply.Refused refusal.IndexBusy) is = inr (is.0.0, inr (not_barred is.1, inl ((is.0.1, is.2), refl)))
    answers (reply.Refused refusal.NoMemory) is = inr (is.0.0, inr (not_barred is.1, inr (not_busy is.2, inr tt)))
    answers _ is = absurd is
