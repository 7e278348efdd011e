-- Plans, as C makes them.
use Rattle.std.specs.Prelude.{◌≡◌, ◌⊎◌, ℕ, ◌<◌, List, length, map}
use Rattle.prune_actions.specs.declared.Action.{Action}
use Rattle.calls.specs.declared.step.Step.TheVariants as step
use Rattle.calls.specs.declared.reply.Refusal.TheVariants as refusal
use Rattle.calls.specs.Words.{PlanToApply}
use Rattle.c_handles.specs.declared.database.Sandpiper.{Sandpiper}
use Rattle.c_views.specs.declared.plan.SandpiperAction.{SandpiperAction}
use Rattle.c_views.specs.Actions.{action_of_kind}
use Rattle.c_handles.specs.declared.status.CallStatus.TheVariants as status
use Rattle.c_handles.specs.CallStatus.{number_of_status}
use Rattle.sandpiper_c.specs.Calls.{held_by, Does}

-- the slot, and what is done to it
abbrev pub action_in : SandpiperAction → ℕ × Action
action_in place = (place.slot, action_of_kind place.kind place.target)

-- the plan that C asks to apply
abbrev pub plan_of_places : ℕ → List SandpiperAction → PlanToApply
plan_of_places change places = record { change = change; actions = map action_in places }

-- the engine did the step, unless memory for what the plan names was refused, and nothing done
abbrev pub DoesPlan : Sandpiper → (page change : ℕ) → List SandpiperAction → ℕ → Sandpiper → Type 0
DoesPlan old page change places code new = Does old (step.ApplyPlan page (plan_of_places change places)) code new
    ⊎ ((0 < length places) × (code ≡ number_of_status (status.Refused refusal.NoMemory)) × (held_by new ≡ held_by old))
