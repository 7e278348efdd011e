-- From slot to slot: where a chain goes on, on any page.
use Rattle.std.specs.Prelude.{◌≡◌, ℕ, Bool, List, Option}
use Rattle.xid_circle.specs.Following.{ReachesIn}
use Rattle.page_sheet.specs.declared.slot.Slot.{Slot}
use Rattle.commit_status.specs.Window.{Window}
use Rattle.hot_chain.specs.Chain.{has_aborted, next_in_chain, LeadsTo}

-- no slot is in the chains of two roots or redirects
abbrev pub NoSharedSlots : (ℕ → Bool) → List Slot → Type 0
NoSharedSlots aborted slots = (a b n : ℕ) → LeadsTo aborted slots a n → LeadsTo aborted slots b n → a ≡ b

-- where a chain goes on from a slot
abbrev pub link : Window → List Slot → ℕ → Option ℕ
link w slots n = next_in_chain (has_aborted w) slots n

-- from n one comes to k
pub record Reaches (next : ℕ → Option ℕ) (n k : ℕ) : Type 0 where
  pub turns : ℕ
  pub along : ReachesIn next turns n k
