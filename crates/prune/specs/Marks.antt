-- The marks that a walk along each root's chain leaves.
use Rattle.std.specs.Prelude.{◌≡◌, ◌+◌, ◌<◌, ◌||◌, ◌==◌, ℕ, nat_eq, Bool, false, IsTrue, ◌↔◌, List, [], ◌∷◌, Option, Some, None, length, slice_index, slice_index_or, if◌then◌else◌}
use Rattle.std.specs.List.{list_any}
use Rattle.xid_circle.specs.Numbers.{Id, SlotNo}
use Rattle.page_sheet.specs.declared.slot.Slot.{Slot}
use Rattle.commit_status.specs.Window.{Window}
use Rattle.hot_chain.specs.Chain.{has_aborted, is_replaced, first_of, IsChain}
use Rattle.page_sheet.specs.Slots.{header_at}
use Rattle.tuple_header.specs.declared.version.Header.{Header}
use Rattle.tuple_header.specs.declared.version.TheConstants.{MOST_SLOT_NUMBERS}
use Rattle.visibility.specs.Visible.{IsDead}
use Rattle.prune_actions.specs.declared.Action.{Action}
use Rattle.prune.specs.declared.marks.PruneVerdict.{PruneVerdict}
use Rattle.prune.specs.declared.marks.PruneVerdict.TheVariants.{Orphan, Kept, Goes}
use Rattle.sound_page.specs.Dead.{IsDeadAt}
use Rattle.prune.specs.Cutting.{IsCutCount}
use Rattle.prune.specs.Pruning.{IsInChainOf, chain_action, orphan_action}

-- all are numbers that a slot may have
abbrev pub AreNumbers : List ℕ → Type 0
AreNumbers numbers = (i : ℕ) → i < length numbers → slice_index numbers i < MOST_SLOT_NUMBERS

-- of a slot that is held by a chain, to which this is done, if anything
abbrev pub verdict_of : Option Action → PruneVerdict
verdict_of None = Kept
verdict_of (Some a) = Goes a

abbrev pub mark_at : List PruneVerdict → ℕ → PruneVerdict
mark_at marks n = slice_index_or marks n Orphan

-- what stands for a slot after the walk along one root's chain
abbrev pub marked : ℕ → List ℕ → ℕ → ℕ → PruneVerdict → PruneVerdict
marked root chain cut n old = if n == root || list_any (nat_eq n) chain then verdict_of (chain_action root chain cut n) else old

pub record MarksChain (w : Window) (horizon : ℕ) (slots : List Slot) (root : ℕ) (before after : List PruneVerdict) : Type 0 where
  pub chain : List ℕ
  pub cut : ℕ
  pub is_chain : IsChain (has_aborted w) slots root chain
  pub is_cut : IsCutCount w horizon slots chain cut
  pub each : (n : ℕ) → mark_at after n ≡ marked root chain cut n (mark_at before n)

-- the chain of a root is this one slot, whose version is dead or not
pub record IsSingle (w : Window) (horizon : Id) (slots : List Slot) (root start : SlotNo) (dead : Bool) : Type 0 where
  pub is_chain : IsChain (has_aborted w) slots root (start ∷ [])
  pub is_dead : IsTrue dead ↔ IsDeadAt w horizon slots start

-- none of these slots holds a dead version
abbrev pub NoneDead : Window → ℕ → List Slot → List ℕ → Type 0
NoneDead w horizon slots chain = (j : ℕ) → j < length chain → ¬ IsDeadAt w horizon slots (slice_index chain j)

-- No chain that holds the slot, nor its own if it is a root, holds a dead version.
abbrev pub IsSpared : Window → ℕ → List Slot → ℕ → Type 0
IsSpared w horizon slots n = (root : ℕ) (chain : List ℕ) → IsInChainOf (has_aborted w) slots root chain n → NoneDead w horizon slots chain

-- a mark is right: of a slot of a root's chain, or of a root, it says what becomes of it, unless each such chain is spared
pub data IsVerdict (w : Window) (horizon : ℕ) (slots : List Slot) (n : ℕ) (mark : PruneVerdict) : Type 0 where
  held : (root : ℕ) (chain : List ℕ) (cut : ℕ) → IsInChainOf (has_aborted w) slots root chain n → IsCutCount w horizon slots chain cut
      → mark ≡ verdict_of (chain_action root chain cut n) → IsVerdict w horizon slots n mark
  spared : IsSpared w horizon slots n → mark ≡ Orphan → IsVerdict w horizon slots n mark

-- The first version of the slot's chain tells that nothing of it goes: no later one replaced it, and it is not dead.
abbrev pub PlainlyStays : Window → ℕ → List Slot → ℕ → Type 0
PlainlyStays w horizon slots n = (start : ℕ) (h : Header) → first_of slots n ≡ Some start → header_at slots start ≡ Some h → (is_replaced (has_aborted w) h ≡ false) × ¬ IsDead w horizon h

-- The numbers ascend, all of them over `low` and below a bound; and of each other number between these Q is so.
abbrev pub ListsAllBut : (SlotNo → Type 0) → (low : SlotNo) → List SlotNo → (bound : SlotNo) → Type 0
ListsAllBut Q low [] bound = (n : ℕ) → low < n → n < bound → Q n
ListsAllBut Q low (x ∷ rest) bound = (low < x) × (x < bound) × ((n : ℕ) → low < n → n < x → Q n) × ListsAllBut Q x rest bound

-- the slots of a page, in order, but for those that plainly stay
abbrev pub ListsDoubtful : Window → ℕ → List Slot → List ℕ → Type 0
ListsDoubtful w horizon slots doubtful = ListsAllBut (PlainlyStays w horizon slots) 0 doubtful (length slots + 1)

-- what becomes of a slot with this mark
abbrev pub planned : Window → List Slot → ℕ → PruneVerdict → Option Action
planned w slots n Kept = None
planned w slots n (Goes a) = Some a
planned w slots n Orphan = orphan_action w slots n
