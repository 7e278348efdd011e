-- The plan that a pruning would follow, as C reads it.
use Rattle.std.specs.Prelude.{ℕ, ◌==◌, if◌then◌else◌, List, ◌++◌, length, map, drop}
use Rattle.prune_actions.specs.declared.Action.{Action}
use Rattle.prune_actions.specs.declared.Action.TheVariants.{Unuse, Kill, Redirect}
use Rattle.c_views.specs.declared.plan.SandpiperAction.{SandpiperAction}

-- what is done by kind; a kind that there is not leads to slot 0, which no plan that checks does
abbrev pub action_of_kind : (kind target : ℕ) → Action
action_of_kind kind target = if kind == 0 then Unuse else if kind == 1 then Kill else if kind == 2 then Redirect target else Redirect 0

abbrev pub kind_of_action : Action → ℕ
kind_of_action Unuse = 0
kind_of_action Kill = 1
kind_of_action (Redirect target) = 2

abbrev pub target_of_action : Action → ℕ
target_of_action Unuse = 0
target_of_action Kill = 0
target_of_action (Redirect target) = target

abbrev pub shown_action : ℕ × Action → SandpiperAction
shown_action named = record { slot = named.0; kind = kind_of_action named.1; target = target_of_action named.1 }

-- places of which the first have what a plan does, one after another
abbrev pub with_actions : List (ℕ × Action) → List SandpiperAction → List SandpiperAction
with_actions actions places = map shown_action actions ++ drop (length actions) places
