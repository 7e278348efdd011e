-- Plans of a page's pruning, whenever it is.
use Rattle.std.specs.Prelude.{ℕ, List}
use Rattle.page_sheet.specs.declared.slot.Slot.{Slot}
use Rattle.commit_status.specs.Window.{Window}
use Rattle.prune_actions.specs.declared.Action.{Action}
use Rattle.prune.specs.Pruning.{IsPlan}

-- the actions are those of pruning this page, by some window and at some horizon
abbrev pub IsPlanOf : List Slot → List (ℕ × Action) → Type 0
IsPlanOf slots actions = (w : Window) × (horizon : ℕ) × IsPlan w horizon slots actions
