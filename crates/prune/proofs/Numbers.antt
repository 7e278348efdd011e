-- The numbers in a chain are those of slots.
use Rattle.std.proofs.Common.{◌≡◌, ℕ, ◌≤◌, Bool, List, length, take, arith}
use Rattle.page_sheet.specs.declared.slot.Slot.{Slot}
use Rattle.std.proofs.lemmas.List.{length-take-le, get_or-take}
use Rattle.prune.specs.Marks.{AreNumbers}
use Rattle.hot_chain.specs.Chain.{IsChain}
use Rattle.sound_page.proofs.Links.{member-there}

pub numbers-from_chain : (aborted : ℕ → Bool) (slots : List Slot) (n : ℕ) (chain : List ℕ) → IsChain aborted slots n chain → length slots ≤ 291 → AreNumbers chain
numbers-from_chain aborted slots n chain c few = λ i h. let there = member-there aborted slots n chain i c h in omega (arith, there.1)

pub numbers-take : (xs : List ℕ) (cut : ℕ) → cut ≤ length xs → AreNumbers xs → AreNumbers (take cut xs)
numbers-take xs cut within small = λ i h.
    let long : length (take cut xs) ≡ cut = length-take-le cut xs within in
    rw (get_or-take cut xs i 0 (omega arith)) (small i (omega arith))
