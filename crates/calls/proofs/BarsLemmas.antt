-- What bars a session bars every other that is like it.
use Rattle.std.proofs.Common.{◌≡◌, ℕ, Some, None, ◌∙◌}
use Rattle.std.specs.Prelude.{IsSome}
use Rattle.calls.specs.declared.reply.Refusal.{Refusal}
use Rattle.calls.specs.declared.reply.Refusal.TheVariants as refusal
use Rattle.calls.specs.Bars.{SessionLooks, BarsOpen, BarsReady, BarsFree, BarsWithCursor}

-- under this number neither has an open session, or both have, and these have failed alike, and have a cursor alike
pub record AreAlike {A B C D : Type 0} (ours : SessionLooks A C) (theirs : SessionLooks B D) (s : ℕ) : Type 0 where
  pub idle : ours.session s ≡ None → theirs.session s ≡ None
  pub opened : (m : A) → ours.session s ≡ Some m → (n : B) × (theirs.session s ≡ Some n) × (theirs.failed n ≡ ours.failed m)
      × (ours.cursor m ≡ None → theirs.cursor n ≡ None) × (IsSome (ours.cursor m) → IsSome (theirs.cursor n))

pub alike-open : {A B C D : Type 0} {ours : SessionLooks A C} {theirs : SessionLooks B D} {s : ℕ} → AreAlike ours theirs s
    → (r : Refusal) → BarsOpen ours s r → BarsOpen theirs s r
alike-open alike refusal.NoSuchSession is = is
alike-open alike refusal.NotOpen is = (is.0, alike.idle is.1)
alike-open alike _ is = absurd is

pub alike-ready : {A B C D : Type 0} {ours : SessionLooks A C} {theirs : SessionLooks B D} {s : ℕ} → AreAlike ours theirs s
    → (r : Refusal) → BarsReady ours s r → BarsReady theirs s r
alike-ready alike refusal.Failed is = let it = alike.opened is.0 is.1 in (it.0, it.1, it.2 ∙ is.2)
alike-ready alike r is = alike-open alike r is

pub alike-free : {A B C D : Type 0} {ours : SessionLooks A C} {theirs : SessionLooks B D} {s : ℕ} → AreAlike ours theirs s
    → (r : Refusal) → BarsFree ours s r → BarsFree theirs s r
alike-free alike refusal.CursorOpen is = let it = alike.opened is.0 is.1 in (it.0, it.1, it.2 ∙ is.2, it.4 is.3)
alike-free alike r is = alike-ready alike r is

pub alike-with_cursor : {A B C D : Type 0} {ours : SessionLooks A C} {theirs : SessionLooks B D} {s : ℕ} → AreAlike ours theirs s
    → (r : Refusal) → BarsWithCursor ours s r → BarsWithCursor theirs s r
alike-with_cursor alike refusal.NoCursor is = let it = alike.opened is.0 is.1 in (it.0, it.1, it.2 ∙ is.2, it.3 is.3)
alike-with_cursor alike r is = alike-ready alike r is

-- What holds of each reason holds of the one that there is. So a step whose other refusals are said apart has these too.

pub of_open : {A C : Type 0} (all : SessionLooks A C) (s : ℕ) (P : Refusal → Type 0) → (BarsOpen all s refusal.NoSuchSession → P refusal.NoSuchSession) → (BarsOpen all s refusal.NotOpen → P refusal.NotOpen)
    → (r : Refusal) → BarsOpen all s r → P r
of_open all s P none idle refusal.NoSuchSession is = none is
of_open all s P none idle refusal.NotOpen is = idle is
of_open all s P none idle _ is = absurd is

pub of_ready : {A C : Type 0} (all : SessionLooks A C) (s : ℕ) (P : Refusal → Type 0) → (BarsOpen all s refusal.NoSuchSession → P refusal.NoSuchSession) → (BarsOpen all s refusal.NotOpen → P refusal.NotOpen)
    → (BarsReady all s refusal.Failed → P refusal.Failed) → (r : Refusal) → BarsReady all s r → P r
of_ready all s P none idle failed refusal.Failed is = failed is
of_ready all s P none idle failed r is = of_open all s P none idle r is

pub of_free : {A C : Type 0} (all : SessionLooks A C) (s : ℕ) (P : Refusal → Type 0) → (BarsOpen all s refusal.NoSuchSession → P refusal.NoSuchSession) → (BarsOpen all s refusal.NotOpen → P refusal.NotOpen)
    → (BarsReady all s refusal.Failed → P refusal.Failed) → (BarsFree all s refusal.CursorOpen → P refusal.CursorOpen) → (r : Refusal) → BarsFree all s r → P r
of_free all s P none idle failed cursor refusal.CursorOpen is = cursor is
of_free all s P none idle failed cursor r is = of_ready all s P none idle failed r is

pub of_with_cursor : {A C : Type 0} (all : SessionLooks A C) (s : ℕ) (P : Refusal → Type 0) → (BarsOpen all s refusal.NoSuchSession → P refusal.NoSuchSession) → (BarsOpen all s refusal.NotOpen → P refusal.NotOpen)
    → (BarsReady all s refusal.Failed → P refusal.Failed) → (BarsWithCursor all s refusal.NoCursor → P refusal.NoCursor) → (r : Refusal) → BarsWithCursor all s r → P r
of_with_cursor all s P none idle failed bare refusal.NoCursor is = bare is
of_with_cursor all s P none idle failed bare r is = of_ready all s P none idle failed r is
