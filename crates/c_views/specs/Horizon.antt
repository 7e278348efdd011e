-- The horizon and its holder, as C reads them.
use Rattle.std.specs.Prelude.{◌≡◌, ℕ, Option, Some, None}
use Rattle.xid_circle.specs.Numbers.{Id, SessionNo}
use Rattle.session_looks.specs.declared.holder.Hold.{Hold}
use Rattle.session_looks.specs.declared.holder.Hold.TheVariants.{BySnapshot, ById}
use Rattle.session_looks.specs.declared.holder.HorizonHolder.{HorizonHolder}
use Rattle.session_looks.specs.Holders.{IsHolder}
use Rattle.session_steps.specs.State.{State, horizon_of}
use Rattle.c_views.specs.declared.horizon.SandpiperHorizon.{SandpiperHorizon}

-- the number of what a session holds the horizon back by
abbrev pub number_of_hold : Hold → ℕ
number_of_hold BySnapshot = 1
number_of_hold ById = 2

abbrev pub shown_horizon : Id → Option HorizonHolder → SandpiperHorizon
shown_horizon x None = record { id = x; holder = 0; session = 0 }
shown_horizon x (Some holder) = record { id = x; holder = number_of_hold holder.by; session = holder.session }

-- the engine's horizon, and its holder, if it has one
pub record IsHorizonShown (st : State) (shown : SandpiperHorizon) : Type 0 where
  pub holder : Option HorizonHolder
  pub holds : IsHolder st holder
  pub is_shown : shown ≡ shown_horizon (horizon_of st) holder
