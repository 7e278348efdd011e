-- What pruning keeps.
use Rattle.std.specs.Prelude.{◌≡◌, ℕ, List, [], length, Option, Some}
use Rattle.page_sheet.specs.declared.slot.Slot.{Slot}
use Rattle.page_sheet.specs.Slots.{slot_at}
use Rattle.page_slots.specs.View.{PageView}
use Rattle.page_sheet.specs.declared.slot.Slot.TheVariants.{Redirect}
use Rattle.commit_status.specs.Window.{Window}
use Rattle.hot_chain.specs.Chain.{has_aborted}
use Rattle.prune_actions.specs.declared.Action.{Action}
use Rattle.prune_actions.specs.declared.Action.TheVariants as action
use Rattle.prune.specs.Actions.{applied, action_of, raised}
use Rattle.sound_page.specs.Dead.{IsDeadAt}
use Rattle.prune.specs.Cutting.{RemovesVersions}
use Rattle.sound_page.specs.Links.{NoSharedSlots}
use Rattle.prune.specs.Pruning.{PrunesSlot, IsPlan, IsPruned}
use Rattle.prune.specs.Checks.{Checks}
use Rattle.prune.specs.Thinning.{IsThinned}
use Rattle.sound_page.specs.Readers.{KeepsFound}
use Rattle.sound_page.specs.Sound.{SoundPage, KeepsChains}

-- the whole page after pruning: what the plan names is done, and nothing else
pub record IsPrunedPage (w : Window) (horizon : ℕ) (old new : PageView) : Type 0 where
  pub actions : List (ℕ × Action)
  pub plan : IsPlan w horizon old.slots actions
  pub is : new ≡ applied actions old

-- where no slot is in two chains, there is one answer for each slot
abbrev pub PruningHasOneOutcome : Type 0
PruningHasOneOutcome = (w : Window) (horizon : ℕ) (slots : List Slot) → NoSharedSlots (has_aborted w) slots
    → ((n : ℕ) (a b : Option Action) → PrunesSlot w horizon slots n a → PrunesSlot w horizon slots n b → a ≡ b)
    × ((a b : List Slot) → IsPruned w horizon slots a → IsPruned w horizon slots b → a ≡ b)

-- whatever goes from a sound page is found by nobody, as long as only what would be cut goes
abbrev pub RemovingIsNeverSeen : Type 0
RemovingIsNeverSeen = (w : Window) (horizon : ℕ) (slots after : List Slot) → SoundPage w slots → RemovesVersions w horizon slots after → KeepsFound w horizon slots after

abbrev pub PruningIsNeverSeen : Type 0
PruningIsNeverSeen = (w : Window) (horizon : ℕ) (slots after : List Slot) → SoundPage w slots → IsPruned w horizon slots after → KeepsFound w horizon slots after

abbrev pub NothingDeadStays : Type 0
NothingDeadStays = (w : Window) (horizon : ℕ) (slots after : List Slot) → SoundPage w slots → IsPruned w horizon slots after → (n : ℕ) → ¬ IsDeadAt w horizon after n

abbrev pub SoundStaysSound : Type 0
SoundStaysSound = (w : Window) (horizon : ℕ) (slots after : List Slot) → SoundPage w slots → IsPruned w horizon slots after
    → SoundPage w after × KeepsChains w slots after

-- where a prefix of each chain goes that would be cut, a sound page stays sound, with the same chains as far as they are kept
abbrev pub ThinningKeepsSound : Type 0
ThinningKeepsSound = (w : Window) (horizon : ℕ) (slots after : List Slot) → SoundPage w slots → IsThinned w horizon slots after
    → SoundPage w after × KeepsChains w slots after

-- so it is where a sound page is pruned,
abbrev pub PruningThins : Type 0
PruningThins = (w : Window) (horizon : ℕ) (slots after : List Slot) → SoundPage w slots → IsPruned w horizon slots after → IsThinned w horizon slots after

-- and where a plan that checks is applied to one
abbrev pub CheckedThins : Type 0
CheckedThins = (w : Window) (horizon : ℕ) (page : PageView) (change : ℕ) (actions : List (ℕ × Action)) → SoundPage w page.slots → Checks w horizon page change actions
    → IsThinned w horizon page.slots (applied actions page).slots

-- a second pruning changes nothing
abbrev pub PruningIsDoneOnce : Type 0
PruningIsDoneOnce = (w : Window) (horizon : ℕ) (slots after again : List Slot) → SoundPage w slots → IsPruned w horizon slots after → IsPruned w horizon after again → again ≡ after

-- A plan that checks, whoever made it, removes only what would be cut; so from a sound page it takes nothing that anyone finds.
abbrev pub CheckedIsNeverSeen : Type 0
CheckedIsNeverSeen = (w : Window) (horizon : ℕ) (page : PageView) (change : ℕ) (actions : List (ℕ × Action)) → Checks w horizon page change actions
    → RemovesVersions w horizon page.slots (applied actions page).slots
    × (SoundPage w page.slots → KeepsFound w horizon page.slots (applied actions page).slots)

-- Each slot that it names is changed, so it raises the change number by their number, modulo 2 ^ 64.
abbrev pub CheckedRaises : Type 0
CheckedRaises = (w : Window) (horizon : ℕ) (page : PageView) (change : ℕ) (actions : List (ℕ × Action)) → Checks w horizon page change actions
    → (applied actions page).change ≡ raised (length actions) page.change

-- A plan that names nothing checks, and none does that names a redirect with the target that it has.
abbrev pub ChecksAtEitherEnd : Type 0
ChecksAtEitherEnd = (w : Window) (horizon : ℕ) (page : PageView) → Checks w horizon page page.change []
    × ((change : ℕ) (actions : List (ℕ × Action)) (n k : ℕ) → Checks w horizon page change actions → slot_at page.slots n ≡ Some (Redirect k)
    → ¬ (action_of actions n ≡ Some (action.Redirect k)))
