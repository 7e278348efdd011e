-- What bars a session from a step: the reasons that are tested first, in their order. Each step asks for a session in one of
-- four states, and for each state the reasons are those of the state before it and one more.
use Rattle.std.specs.Prelude.{◌≡◌, ℕ, ◌<◌, ◌≤◌, Bool, true, false, Option, Some, None, IsSome}
use Rattle.calls.specs.declared.step.TheConstants.{MOST_SESSIONS}
use Rattle.calls.specs.declared.reply.Refusal.{Refusal}
use Rattle.calls.specs.declared.reply.Refusal.TheVariants as refusal

-- sessions, as far as these reasons look at them: the one that is open under a number, whether it has failed, and its cursor
pub record SessionLooks (A C : Type 0) : Type 0 where
  pub session : ℕ → Option A
  pub failed : A → Bool
  pub cursor : A → Option C

-- it is to be open: there is none of that number, or it is not open
abbrev pub BarsOpen : {A C : Type 0} → SessionLooks A C → ℕ → Refusal → Type 0
BarsOpen all s refusal.NoSuchSession = MOST_SESSIONS ≤ s
BarsOpen all s refusal.NotOpen = (s < MOST_SESSIONS) × (all.session s ≡ None)
BarsOpen all s refusal = ⊥

-- and not to have failed: or it has
abbrev pub BarsReady : {A C : Type 0} → SessionLooks A C → ℕ → Refusal → Type 0
BarsReady {A = A} all s refusal.Failed = (m : A) × (all.session s ≡ Some m) × (all.failed m ≡ true)
BarsReady all s refusal = BarsOpen all s refusal

-- and to have no cursor: or it has one
abbrev pub BarsFree : {A C : Type 0} → SessionLooks A C → ℕ → Refusal → Type 0
BarsFree {A = A} all s refusal.CursorOpen = (m : A) × (all.session s ≡ Some m) × (all.failed m ≡ false) × IsSome (all.cursor m)
BarsFree all s refusal = BarsReady all s refusal

-- or to have one: or it has none
abbrev pub BarsWithCursor : {A C : Type 0} → SessionLooks A C → ℕ → Refusal → Type 0
BarsWithCursor {A = A} all s refusal.NoCursor = (m : A) × (all.session s ≡ Some m) × (all.failed m ≡ false) × (all.cursor m ≡ None)
BarsWithCursor all s refusal = BarsReady all s refusal
