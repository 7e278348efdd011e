-- What stands between the steps of an update.
use Rattle.std.specs.Prelude.{◌≡◌, ◌⊎◌, ℕ, ◌≤◌, Option, List, [], length}
use Rattle.xid_circle.specs.Numbers.{Id, PageNo, SlotNo}
use Rattle.xid_circle.specs.declared.Tid.{Tid}
use Rattle.heap_pages.specs.Choice.{IsPlaceFor}
use Rattle.heap_write.specs.declared.target.Target.{Target}
use Rattle.sound_page.specs.Dead.{HasDead}
use Rattle.prune_actions.specs.declared.Action.{Action}
use Rattle.prune.specs.Actions.{CanApply, applied}
use Rattle.prune.specs.Pruning.{IsPlan}
use Rattle.prune.specs.Room.{IsPlanOf}
use Rattle.page_sheet.specs.Slots.{IsNormalAt}
use Rattle.heap_pages.specs.View.{with_page}
use Rattle.heap_write.specs.Heap.{HeapView, page_on}
use Rattle.heap_write.specs.Growth.{place_of_target}
use Rattle.heap_write.specs.Writes.{WouldGo}
use Rattle.write_ids.specs.Ids.{NeedsFreeze, NewestIsGiven, TakesIds}
use Rattle.heap_write.specs.Refusals.{VersionIsThere}
use Rattle.xid_circle.specs.Circle.{IsNormal}
use Rattle.commit_status.specs.Window.{IsWindow}
use Rattle.snapshot.specs.Own.{Own}
use Rattle.tuple_header.specs.declared.version.TheConstants.{MOST_SLOTS}

-- the version at a place is there, and each level that lacks an id can be given one
pub record IsReplaceable (h : HeapView) (own : Own) (place : Tid) : Type 0 where
  pub newest : NewestIsGiven h.statuses own
  pub free : ¬ NeedsFreeze h.statuses own
  pub there : VersionIsThere h place

-- each level has an id now, the newest x
pub record IsDoneUnder (h h' : HeapView) (own own' : Own) (x : ℕ) : Type 0 where
  pub takes : TakesIds h.statuses h'.statuses own own' x
  pub max_pages : h'.max_pages ≡ h.max_pages
  pub window : IsWindow h'.statuses
  pub normal : IsNormal x

-- a new version of this size goes there, or nowhere
abbrev pub IsChosen : HeapView → ℕ → Option Target → Type 0
IsChosen h size found = IsPlaceFor h.pages.pages h.max_pages size (place_of_target found)

-- no version on the page of this number is dead, so that pruning leaves it as it is
pub record HasNoneDead (h : HeapView) (number horizon : ℕ) : Type 0 where
  pub few : length (page_on h number).slots ≤ MOST_SLOTS
  pub none : ¬ HasDead h.statuses horizon (page_on h number).slots

-- the actions are those of pruning the page of this number at a horizon
abbrev pub IsPlanOn : HeapView → PageNo → (horizon : Id) → List (SlotNo × Action) → Type 0
IsPlanOn h number horizon actions = IsPlan h.statuses horizon (page_on h number).slots actions

-- the actions are a plan of pruning the page of the version at a place, and leave the version there
pub record IsPlanAround (h : HeapView) (place : Tid) (actions : List (SlotNo × Action)) : Type 0 where
  pub planned : IsPlanOf (page_on h place.page).slots actions
  pub can_apply : CanApply (length (page_on h place.page).slots) actions
  pub stays : IsNormalAt (applied actions (page_on h place.page)).slots place.slot

-- no pruning is done for an update of the version at a place: it would change nothing, or take the version away
abbrev pub IsLeftAlone : HeapView → Tid → ℕ → Type 0
IsLeftAlone h place horizon = IsPlanOn h place.page horizon [] ⊎ WouldGo h place horizon

-- actions are done on the page of this number, and nothing else changes
abbrev pub with_applied : HeapView → ℕ → List (ℕ × Action) → HeapView
with_applied h number actions = record h { pages = with_page h.pages number (applied actions (page_on h number)) }
