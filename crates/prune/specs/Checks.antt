-- A plan that may be applied, whoever made it, and when: it cuts of each chain a prefix that pruning would cut now, or less.
use Rattle.std.specs.Prelude.{◌≡◌, ◌↔◌, ℕ, ◌<◌, ◌≤◌, true, List, length, Option, Some, IsSome, slice_get, slice_index}
use Rattle.xid_circle.specs.Numbers.{Id, SlotNo, Count}
use Rattle.page_sheet.specs.declared.slot.Slot.{Slot}
use Rattle.page_sheet.specs.Slots.{header_at}
use Rattle.page_slots.specs.View.{PageView}
use Rattle.tuple_header.specs.declared.version.Header.{Header}
use Rattle.tuple_header.specs.Marks.{is_heap_only}
use Rattle.commit_status.specs.Window.{Window}
use Rattle.hot_chain.specs.Chain.{has_aborted, is_root, IsChain}
use Rattle.prune_actions.specs.declared.Action.{Action}
use Rattle.prune_actions.specs.declared.Action.TheVariants as action
use Rattle.sound_page.specs.Dead.{IsDeadAt}
use Rattle.prune.specs.Actions.{AreInOrder, action_of}
use Rattle.prune.specs.Pruning.{root_action, orphan_action, IsInChainOf, IsLoose}

-- the version at this place of a chain, or a later one of the chain, is dead
abbrev pub IsCutIn : Window → ℕ → List Slot → List ℕ → ℕ → Type 0
IsCutIn w horizon slots chain i = (j : ℕ) × (i ≤ j) × (j < length chain) × IsDeadAt w horizon slots (slice_index chain j)

-- What a plan does to a root and its chain. The slots named are the chain's first so many, pruning would cut them too, and
-- they become what goes with the first that is kept. Where there are none, the root isn't named.
pub record IsPrefix (w : Window) (horizon : Id) (slots : List Slot) (named : SlotNo → Option Action) (root : SlotNo) (chain : List SlotNo) (prefix : Count) : Type 0 where
  pub within : prefix ≤ length chain
  pub removed : (i : ℕ) → i < length chain → IsSome (named (slice_index chain i)) ↔ (i < prefix)
  pub cut : (i : ℕ) → i < prefix → IsCutIn w horizon slots chain i
  pub unused : (i : ℕ) (h : Header) → i < prefix → header_at slots (slice_index chain i) ≡ Some h → is_heap_only h ≡ true
      → named (slice_index chain i) ≡ Some action.Unuse
  pub leads : named root ≡ root_action prefix (slice_get chain prefix)

abbrev pub HasPrefix : Window → (horizon : Id) → List Slot → (named : SlotNo → Option Action) → (root : SlotNo) → Type 0
HasPrefix w horizon slots named root = (chain : List ℕ) → IsChain (has_aborted w) slots root chain → (prefix : ℕ) × IsPrefix w horizon slots named root chain prefix

-- a slot named is a root or in the chain of one; every other holds an aborted heap-only version, and becomes unused
pub data IsAccounted (w : Window) (slots : List Slot) (n : ℕ) (a : Action) : Type 0 where
  of_root : (root : ℕ) (chain : List ℕ) → IsInChainOf (has_aborted w) slots root chain n → IsAccounted w slots n a
  lost : IsLoose (has_aborted w) slots n → orphan_action w slots n ≡ Some a → IsAccounted w slots n a

pub record Checks (w : Window) (horizon : Id) (page : PageView) (change : Count) (actions : List (SlotNo × Action)) : Type 0 where
  pub same_change : change ≡ page.change
  pub in_order : AreInOrder (length page.slots) 0 actions
  pub prefixes : (root : ℕ) → is_root page.slots root ≡ true → HasPrefix w horizon page.slots (action_of actions) root
  pub others : (n : ℕ) (a : Action) → action_of actions n ≡ Some a → IsAccounted w page.slots n a
