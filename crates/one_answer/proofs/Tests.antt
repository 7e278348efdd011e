-- The tests of a step, one after another: the first that fails has its answer. So two answers agree.
use Rattle.std.proofs.Common.{◌≡◌, ℕ, ◌<◌, ◌≤◌, Option, Some, None, true, false, refl, sym, ◌∙◌, subst, arith, ◌⊎◌, inl, inr}
use Rattle.std.specs.Prelude.{IsSome}
use Rattle.std.proofs.lemmas.Option.{none-some, same_Some}
use Rattle.history.specs.World.{World, OpenSession, IsReady, IsWriter, world_sessions}
use Rattle.history.specs.Laws.{HasFew}
use Rattle.calls.specs.declared.step.Step.{Step}
use Rattle.calls.specs.declared.step.Step.TheVariants as step
use Rattle.calls.specs.declared.step.TheConstants.{MOST_SESSIONS}
use Rattle.calls.specs.declared.reply.Reply.{Reply}
use Rattle.calls.specs.declared.reply.Reply.TheVariants as reply
use Rattle.calls.specs.declared.reply.Refusal.{Refusal}
use Rattle.calls.specs.declared.reply.Refusal.TheVariants as refusal
use Rattle.calls.specs.Bars.{BarsOpen, BarsReady, BarsFree, BarsWithCursor}
use Rattle.one_answer.specs.OneAnswer.{TellTheSame, IsOfTheEngine, IsDue, IsLeftOpen}

-- something may be left open beside it
abbrev pub IsTaken : Reply → Type 0
IsTaken (reply.Refused refusal) = IsOfTheEngine refusal
IsTaken (reply.Found row) = ⊥
IsTaken reply.Committed = ⊥
IsTaken reply.RolledBack = ⊥
IsTaken reply.End = ⊥
IsTaken reply = Unit {0}

pub not_due : (a : Reply) → IsTaken a → IsDue a → ⊥
not_due (reply.Refused r) taken due = due taken
not_due (reply.Found row) taken due = taken
not_due reply.Committed taken due = taken
not_due reply.RolledBack taken due = taken
not_due reply.End taken due = taken
not_due _ taken due = due

-- the same, or one of them is left open, and neither is due
abbrev pub Agree : World → Step → Reply → Reply → Type 0
Agree w step a b = TellTheSame a b ⊎ (IsTaken a × IsTaken b × (IsLeftOpen w step a ⊎ IsLeftOpen w step b))

-- of this kind any two answers agree
abbrev pub Agrees : World → Step → (Reply → Type 0) → Type 0
Agrees w step Kind = (a b : Reply) → Kind a → Kind b → Agree w step a b

TellTheSame-refl : (a : Reply) → TellTheSame a a
TellTheSame-refl (reply.Rows a) = refl
TellTheSame-refl (reply.Keys a) = refl
TellTheSame-refl _ = refl

pub same_of : (a b : Reply) → a ≡ b → TellTheSame a b
same_of a b is = subst (TellTheSame a) is (TellTheSame-refl a)

pub left_taken : (w : World) (step : Step) (a : Reply) → IsLeftOpen w step a → IsTaken a
left_taken w (step.Begin s) (reply.Refused refusal.NoMemory) is = tt
left_taken w (step.Insert s row) (reply.Refused refusal.NeedsFreeze) is = tt
left_taken w (step.Insert s row) (reply.Refused refusal.NoRoom) is = tt
left_taken w (step.Insert s row) (reply.Refused refusal.NoMemory) is = tt
left_taken w (step.Update s row) (reply.Refused refusal.NeedsFreeze) is = tt
left_taken w (step.Update s row) (reply.Refused refusal.NoRoom) is = tt
left_taken w (step.Update s row) (reply.Refused refusal.NoMemory) is = tt
left_taken w (step.Delete s k) (reply.Refused refusal.NeedsFreeze) is = tt
left_taken w (step.Delete s k) (reply.Refused refusal.NoMemory) is = tt
left_taken w (step.Savepoint s) (reply.Refused refusal.NoMemory) is = tt
left_taken w (step.OpenIndex s index low high) (reply.Refused refusal.NoMemory) is = tt
left_taken w (step.OpenHeap s) (reply.Refused refusal.NoMemory) is = tt
left_taken w (step.OpenKeys s low high) (reply.Refused refusal.NoMemory) is = tt
left_taken w (step.Next s n) (reply.Rows rows) is = tt
left_taken w (step.Next s n) (reply.Refused refusal.NoMemory) is = tt
left_taken w (step.TakePage s p) (reply.Rows rows) is = tt
left_taken w (step.TakePage s p) (reply.Refused refusal.NoSuchPage) is = tt
left_taken w (step.TakePage s p) (reply.Refused refusal.NoMemory) is = tt
left_taken w (step.Prune p) (reply.Refused refusal.NoSuchPage) is = tt
left_taken w (step.ApplyPlan p plan) (reply.Refused refusal.NoSuchPage) is = tt
left_taken w (step.ApplyPlan p plan) (reply.Refused refusal.Stale) is = tt
left_taken w step.VacuumStep (reply.Worked piece) is = tt
left_taken w step.VacuumStep (reply.Ended first) is = tt
left_taken w (step.CreateIndex c) (reply.Refused refusal.NoMemory) is = tt
left_taken w _ _ is = absurd is

pub not_both : {A : Type 0} (o : Option A) → IsSome o → o ≡ None → ⊥
not_both None some none = absurd (cc)
not_both (Some x) some none = none-some x (sym none)

-- A test that fails where P, and passes where Q.

abbrev pub Or : (P Q : Type 0) → Reply → (Reply → Type 0) → Reply → Type 0
Or P Q answer rest a = (P × (a ≡ answer)) ⊎ (Q × rest a)

pub agree-or : (w : World) (step : Step) (P Q : Type 0) (answer : Reply) (rest : Reply → Type 0) → (P → Q → ⊥) → Agrees w step rest → Agrees w step (Or P Q answer rest)
agree-or w step P Q answer rest isnt agree a b (inl x) (inl y) = inl (same_of a b (x.1 ∙ sym y.1))
agree-or w step P Q answer rest isnt agree a b (inl x) (inr y) = absurd (isnt x.0 y.0)
agree-or w step P Q answer rest isnt agree a b (inr x) (inl y) = absurd (isnt y.0 x.0)
agree-or w step P Q answer rest isnt agree a b (inr x) (inr y) = agree a b x.1 y.1

-- All tests pass: this is the answer, unless what is left open is.

abbrev pub Last : World → Step → Reply → Reply → Type 0
Last w step answer a = (a ≡ answer) ⊎ IsLeftOpen w step a

pub agree-last : (w : World) (step : Step) (answer : Reply) → IsTaken answer → Agrees w step (Last w step answer)
agree-last w step answer taken a b (inl x) (inl y) = inl (same_of a b (x ∙ sym y))
agree-last w step answer taken a b (inl x) (inr y) = inr (subst IsTaken (sym x) taken, left_taken w step b y, inr y)
agree-last w step answer taken a b (inr x) (inl y) = inr (left_taken w step a x, subst IsTaken (sym y) taken, inl x)
agree-last w step answer taken a b (inr x) (inr y) = inr (left_taken w step a x, left_taken w step b y, inl x)

-- Or this is the answer, and nothing is left open.

abbrev pub Only : Reply → Reply → Type 0
Only answer a = a ≡ answer

pub agree-only : (w : World) (step : Step) (answer : Reply) → Agrees w step (Only answer)
agree-only w step answer a b x y = inl (same_of a b (x ∙ sym y))

-- The tests of the session.

pub data Opened (w : World) (s : ℕ) (rest : OpenSession → Reply → Type 0) (a : Reply) : Type 0 where
  no_session : MOST_SESSIONS ≤ s → a ≡ reply.Refused refusal.NoSuchSession → Opened w s rest a
  idle : s < MOST_SESSIONS → w.session s ≡ None → a ≡ reply.Refused refusal.NotOpen → Opened w s rest a
  opened : (m : OpenSession) → w.session s ≡ Some m → rest m a → Opened w s rest a

-- for each session that may be open there
abbrev pub AgreesAt : World → Step → ℕ → (OpenSession → Reply → Type 0) → Type 0
AgreesAt w step s rest = (m : OpenSession) → w.session s ≡ Some m → Agrees w step (rest m)

pub agree-opened : (w : World) (step : Step) (s : ℕ) (rest : OpenSession → Reply → Type 0) → HasFew w → AgreesAt w step s rest → Agrees w step (Opened w s rest)
agree-opened w step s rest few agree a b (no_session far is) (no_session far' is') = inl (same_of a b (is ∙ sym is'))
agree-opened w step s rest few agree a b (no_session far is) (idle near at' is') = absurd (omega arith)
agree-opened w step s rest few agree a b (no_session far is) (opened m at' x) = absurd (none-some m (sym (few s far) ∙ at'))
agree-opened w step s rest few agree a b (idle near at is) (no_session far is') = absurd (omega arith)
agree-opened w step s rest few agree a b (idle near at is) (idle near' at' is') = inl (same_of a b (is ∙ sym is'))
agree-opened w step s rest few agree a b (idle near at is) (opened m at' x) = absurd (none-some m (sym at ∙ at'))
agree-opened w step s rest few agree a b (opened m at x) (no_session far is') = absurd (none-some m (sym (few s far) ∙ at))
agree-opened w step s rest few agree a b (opened m at x) (idle near at' is') = absurd (none-some m (sym at' ∙ at))
agree-opened w step s rest few agree a b (opened m at x) (opened n at' y) = agree m at a b x (subst (λ (m : OpenSession). rest m b) (same_Some n m (sym at' ∙ at)) y)

abbrev pub sound : (OpenSession → Reply → Type 0) → OpenSession → Reply → Type 0
sound rest m a = Or (m.failed ≡ true) (m.failed ≡ false) (reply.Refused refusal.Failed) (rest m) a

abbrev pub bare : (OpenSession → Reply → Type 0) → OpenSession → Reply → Type 0
bare rest m a = Or (IsSome m.cursor) (m.cursor ≡ None) (reply.Refused refusal.CursorOpen) (rest m) a

abbrev pub held : (OpenSession → Reply → Type 0) → OpenSession → Reply → Type 0
held rest m a = Or (m.cursor ≡ None) (IsSome m.cursor) (reply.Refused refusal.NoCursor) (rest m) a

agree-sound : (w : World) (step : Step) (s : ℕ) (rest : OpenSession → Reply → Type 0) → AgreesAt w step s rest → AgreesAt w step s (sound rest)
agree-sound w step s rest agree m at =
    agree-or w step (m.failed ≡ true) (m.failed ≡ false) (reply.Refused refusal.Failed) (rest m) (λ was isnt. let never : true ≡ false = sym was ∙ isnt in cc) (agree m at)

pub agree-bare : (w : World) (step : Step) (s : ℕ) (rest : OpenSession → Reply → Type 0) → AgreesAt w step s rest → AgreesAt w step s (bare rest)
agree-bare w step s rest agree m at =
    agree-or w step (IsSome m.cursor) (m.cursor ≡ None) (reply.Refused refusal.CursorOpen) (rest m) (λ some none. not_both m.cursor some none) (agree m at)

agree-held : (w : World) (step : Step) (s : ℕ) (rest : OpenSession → Reply → Type 0) → AgreesAt w step s rest → AgreesAt w step s (held rest)
agree-held w step s rest agree m at =
    agree-or w step (m.cursor ≡ None) (IsSome m.cursor) (reply.Refused refusal.NoCursor) (rest m) (λ none some. not_both m.cursor some none) (agree m at)

abbrev pub AsReady : World → ℕ → (OpenSession → Reply → Type 0) → Reply → Type 0
AsReady w s rest a = Opened w s (sound rest) a

abbrev pub AsFree : World → ℕ → (OpenSession → Reply → Type 0) → Reply → Type 0
AsFree w s rest a = Opened w s (sound (bare rest)) a

abbrev pub WithCursor : World → ℕ → (OpenSession → Reply → Type 0) → Reply → Type 0
WithCursor w s rest a = Opened w s (sound (held rest)) a

pub agree-ready : (w : World) (step : Step) (s : ℕ) (rest : OpenSession → Reply → Type 0) → HasFew w → AgreesAt w step s rest → Agrees w step (AsReady w s rest)
agree-ready w step s rest few agree = agree-opened w step s (sound rest) few (agree-sound w step s rest agree)

pub agree-free : (w : World) (step : Step) (s : ℕ) (rest : OpenSession → Reply → Type 0) → HasFew w → AgreesAt w step s rest → Agrees w step (AsFree w s rest)
agree-free w step s rest few agree = agree-ready w step s (bare rest) few (agree-bare w step s rest agree)

pub agree-with_cursor : (w : World) (step : Step) (s : ℕ) (rest : OpenSession → Reply → Type 0) → HasFew w → AgreesAt w step s rest → Agrees w step (WithCursor w s rest)
agree-with_cursor w step s rest few agree = agree-ready w step s (held rest) few (agree-held w step s rest agree)

-- A session that is barred fails one of these tests.

pub barred_open : (w : World) (s : ℕ) (rest : OpenSession → Reply → Type 0) (r : Refusal) → BarsOpen (world_sessions w) s r → Opened w s rest (reply.Refused r)
barred_open w s rest refusal.NoSuchSession is = no_session is refl
barred_open w s rest refusal.NotOpen is = idle is.0 is.1 refl
barred_open w s rest _ is = absurd is

pub barred_ready : (w : World) (s : ℕ) (rest : OpenSession → Reply → Type 0) (r : Refusal) → BarsReady (world_sessions w) s r → AsReady w s rest (reply.Refused r)
barred_ready w s rest refusal.Failed is = opened is.0 is.1 (inl (is.2, refl))
barred_ready w s rest r is = barred_open w s (sound rest) r is

pub barred_free : (w : World) (s : ℕ) (rest : OpenSession → Reply → Type 0) (r : Refusal) → BarsFree (world_sessions w) s r → AsFree w s rest (reply.Refused r)
barred_free w s rest refusal.CursorOpen is = opened is.0 is.1 (inr (is.2, inl (is.3, refl)))
barred_free w s rest r is = barred_ready w s (bare rest) r is

pub barred_with_cursor : (w : World) (s : ℕ) (rest : OpenSession → Reply → Type 0) (r : Refusal) → BarsWithCursor (world_sessions w) s r → WithCursor w s rest (reply.Refused r)
barred_with_cursor w s rest refusal.NoCursor is = opened is.0 is.1 (inr (is.2, inl (is.3, refl)))
barred_with_cursor w s rest r is = barred_ready w s (held rest) r is

-- And one that is not passes them.

pub past_ready : (w : World) (s : ℕ) (rest : OpenSession → Reply → Type 0) (m : OpenSession) (a : Reply) → IsReady w s m → rest m a → AsReady w s rest a
past_ready w s rest m a ready x = opened m ready.there (inr (ready.sound, x))

pub past_free : (w : World) (s : ℕ) (rest : OpenSession → Reply → Type 0) (m : OpenSession) (a : Reply) → IsWriter w s m → rest m a → AsFree w s rest a
past_free w s rest m a writer x = opened m writer.ready.there (inr (writer.ready.sound, inr (writer.bare, x)))

pub past_with_cursor : (w : World) (s : ℕ) (rest : OpenSession → Reply → Type 0) (m : OpenSession) (a : Reply) → IsReady w s m → IsSome m.cursor → rest m a → WithCursor w s rest a
past_with_cursor w s rest m a ready some x = opened m ready.there (inr (ready.sound, inr (some, x)))
