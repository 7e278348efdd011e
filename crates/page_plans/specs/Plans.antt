-- The plan of a page as it was.
use Rattle.std.specs.Prelude.{◌≡◌, ℕ, List, Some, slice_get}
use Rattle.xid_circle.specs.Numbers.{Id, PageNo}
use Rattle.page_slots.specs.View.{PageView}
use Rattle.commit_status.specs.Window.{Window}
use Rattle.hot_chain.specs.Chain.{has_aborted}
use Rattle.sound_page.specs.Links.{NoSharedSlots}
use Rattle.prune.specs.declared.action.PrunePlan.{PrunePlan}
use Rattle.prune.specs.Pruning.{IsPlan}
use Rattle.prune.specs.Checks.{Checks}

-- Beside the page's number, exactly what pruning would do to the page. Where no slot is in the chains of two roots, it checks.
pub record IsPlanOfPage (statuses : Window) (horizon : Id) (page : PageNo × PageView) (plan : PageNo × PrunePlan) : Type 0 where
  pub number : plan.0 ≡ page.0
  pub change : plan.1.change ≡ page.1.change
  pub exact : IsPlan statuses horizon page.1.slots plan.1.actions.items
  pub checks : NoSharedSlots (has_aborted statuses) page.1.slots
      → Checks statuses horizon page.1 plan.1.change plan.1.actions.items

-- So it is of the page at this place.
abbrev pub IsPlanAt : Window → Id → List (PageNo × PageView) → ℕ → PageNo × PrunePlan → Type 0
IsPlanAt statuses horizon pages at plan = (page : PageNo × PageView) → slice_get pages at ≡ Some page → IsPlanOfPage statuses horizon page plan
