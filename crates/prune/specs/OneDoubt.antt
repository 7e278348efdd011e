-- Pages on which one version alone may be dead: the chains that begin there, and what becomes of their roots.
use Rattle.std.specs.Prelude.{◌≡◌, ◌≢◌, ℕ, ◌<◌, ◌≤◌, true, nat_lt, ◌==◌, List, [], ◌∷◌, Option, Some, None, if◌then◌else◌, MatchOption}
use Rattle.xid_circle.specs.Numbers.{SlotNo}
use Rattle.page_sheet.specs.declared.slot.Slot.{Slot}
use Rattle.page_sheet.specs.declared.slot.Slot.TheVariants.{Redirect}
use Rattle.page_sheet.specs.Slots.{slot_at}
use Rattle.hot_chain.specs.Chain.{first_of, is_root}
use Rattle.prune_actions.specs.declared.Action.{Action}
use Rattle.prune_actions.specs.declared.Action.TheVariants as action
use Rattle.prune.specs.declared.one_doubt.SlotsOfKind.{SlotsOfKind}
use Rattle.prune.specs.declared.one_doubt.SlotsOfKind.TheVariants.{NoSlot, One, Several}

-- the slot is a redirect to the target
abbrev pub IsRedirectTo : List Slot → (target : SlotNo) → SlotNo → Type 0
IsRedirectTo slots target n = slot_at slots n ≡ Some (Redirect target)

-- the first from this number on, if there is one
abbrev pub IsFirstRedirect : List Slot → (target from : SlotNo) → Option SlotNo → Type 0
IsFirstRedirect slots target from found = MatchOption found
    ((n : ℕ) → from ≤ n → ¬ IsRedirectTo slots target n)
    (λ first. IsRedirectTo slots target first × (from ≤ first) × ((n : ℕ) → from ≤ n → n < first → ¬ IsRedirectTo slots target n))

-- a root or redirect whose chain begins in this slot
pub record BeginsIn (slots : List Slot) (start root : SlotNo) : Type 0 where
  pub starts : is_root slots root ≡ true
  pub first : first_of slots root ≡ Some start

-- Q is so of these slots: of none, of one alone, or of more
abbrev pub AreThose : (SlotNo → Type 0) → SlotsOfKind → Type 0
AreThose Q NoSlot = (n : ℕ) → ¬ Q n
AreThose Q (One only) = Q only × ((n : ℕ) → Q n → n ≡ only)
AreThose Q Several = (a b : ℕ) × Q a × Q b × (a ≢ b)

-- the second slot of a chain that begins in this one and goes on so, if it has another
abbrev pub second_of : (start : SlotNo) → (next : Option SlotNo) → Option SlotNo
second_of start None = None
second_of start (Some next) = if next == start then None else Some next

-- What is done, in order of slots, where the first version of a root's chain goes alone. The root becomes what this action makes of it,
-- and the version's slot unused, unless it is the root.
abbrev pub first_cut : (root start : ℕ) → Action → List (ℕ × Action)
first_cut root start a =
    if nat_lt root start then (root, a) ∷ (start, action.Unuse) ∷ []
    else (if nat_lt start root then (start, action.Unuse) ∷ (root, a) ∷ [] else (root, a) ∷ [])
