-- What pruning does to the slots of a page. (README.HOT, "Pruning": the root of a chain whose prefix is cut leads on to the
-- first version that is kept, or is dead where none is. A heap-only version that is cut has no index entry, so its slot is
-- free at once. An aborted heap-only version that no chain reaches has no entry either.)
use Rattle.std.specs.Prelude.{◌≡◌, ◌⊎◌, ℕ, zero, suc, ◌==◌, ◌&&◌, not, Bool, true, false, nat_eq, List, length, take, Option, Some, None, slice_get, if◌then◌else◌, Contains}
use Rattle.std.specs.List.{list_any}
use Rattle.page_sheet.specs.declared.slot.Slot.{Slot}
use Rattle.page_sheet.specs.Slots.{slot_at, header_at, SlotIsThere}
use Rattle.tuple_header.specs.declared.version.Header.{Header}
use Rattle.tuple_header.specs.Marks.{is_frozen, is_heap_only}
use Rattle.commit_status.specs.Window.{Window}
use Rattle.hot_chain.specs.Chain.{has_aborted, is_root, IsChain, LeadsTo}
use Rattle.prune_actions.specs.declared.Action.{Action}
use Rattle.prune_actions.specs.declared.Action.TheVariants as action
use Rattle.prune.specs.Cutting.{IsCutCount}
use Rattle.prune.specs.Actions.{acted, AreInOrder, action_of}

-- what becomes of a root: so many of its chain's versions are cut, and this is the first that is kept, if any is
abbrev pub root_action : ℕ → Option ℕ → Option Action
root_action zero kept = None
root_action (suc cut) None = Some action.Kill
root_action (suc cut) (Some k) = Some (action.Redirect k)

-- what becomes of a slot of a root's chain, or of the root itself
abbrev pub chain_action : ℕ → List ℕ → ℕ → ℕ → Option Action
chain_action root chain cut n =
    if n == root then root_action cut (slice_get chain cut)
    else (if list_any (nat_eq n) (take cut chain) then Some action.Unuse else None)

-- what becomes of a slot that no chain reaches: a heap-only version goes where its inserter is aborted
abbrev pub loose_in : Window → Option Header → Option Action
loose_in w None = None
loose_in w (Some h) = if is_heap_only h && (not (is_frozen h) && has_aborted w h.xmin.0) then Some action.Unuse else None

abbrev pub orphan_action : Window → List Slot → ℕ → Option Action
orphan_action w slots n = loose_in w (header_at slots n)

-- the slot is a root with this chain, or in it
pub record IsInChainOf (aborted : ℕ → Bool) (slots : List Slot) (root : ℕ) (chain : List ℕ) (n : ℕ) : Type 0 where
  pub starts : is_root slots root ≡ true
  pub is_chain : IsChain aborted slots root chain
  pub holds : (n ≡ root) ⊎ Contains chain n

-- neither a root nor in the chain of one
pub record IsLoose (aborted : ℕ → Bool) (slots : List Slot) (n : ℕ) : Type 0 where
  pub no_root : is_root slots n ≡ false
  pub unreached : (root : ℕ) → ¬ LeadsTo aborted slots root n

-- What pruning at this horizon does to a slot, if anything. Where no slot is in the chains of two roots there is one answer.
pub data PrunesSlot (w : Window) (horizon : ℕ) (slots : List Slot) (n : ℕ) (answer : Option Action) : Type 0 where
  by_root : (root : ℕ) (chain : List ℕ) (cut : ℕ) → IsInChainOf (has_aborted w) slots root chain n → IsCutCount w horizon slots chain cut
      → answer ≡ chain_action root chain cut n → PrunesSlot w horizon slots n answer
  by_none : IsLoose (has_aborted w) slots n → answer ≡ orphan_action w slots n → PrunesSlot w horizon slots n answer

-- a plan's actions, in order of slots: exactly what pruning does
pub record IsPlan (w : Window) (horizon : ℕ) (slots : List Slot) (actions : List (ℕ × Action)) : Type 0 where
  pub in_order : AreInOrder (length slots) 0 actions
  pub exact : (n : ℕ) → SlotIsThere slots n → PrunesSlot w horizon slots n (action_of actions n)

-- the slot after pruning
pub record IsPrunedSlot (w : Window) (horizon : ℕ) (slots after : List Slot) (n : ℕ) : Type 0 where
  pub answer : Option Action
  pub does : PrunesSlot w horizon slots n answer
  pub is : slot_at after n ≡ acted (slot_at slots n) answer

-- the slots after pruning
pub record IsPruned (w : Window) (horizon : ℕ) (slots after : List Slot) : Type 0 where
  pub count : length after ≡ length slots
  pub each : (n : ℕ) → SlotIsThere slots n → IsPrunedSlot w horizon slots after n
