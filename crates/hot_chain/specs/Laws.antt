-- The law of chains.
use Rattle.std.specs.Prelude.{◌≡◌, ℕ, Bool, List}
use Rattle.page_sheet.specs.declared.slot.Slot.{Slot}
use Rattle.hot_chain.specs.Chain.{IsChain}

-- a slot has one chain
abbrev pub ChainIsOne : Type 0
ChainIsOne = (aborted : ℕ → Bool) (slots : List Slot) (n : ℕ) (c d : List ℕ) → IsChain aborted slots n c → IsChain aborted slots n d → c ≡ d
