use Rattle.std.proofs.Common.{◌≡◌, ◌<◌, ◌≤◌, ℕ, true}
use Rattle.space_maps.specs.View.{mark_on}
use Rattle.vacuum_passes.specs.View.{skips}
use Rattle.vacuum_passes.proofs.vacuum.Vacuum.next_page.Given as goal

abbrev pub invariant-loop-number : goal.invariant-loop-number
invariant-loop-number l = (q : ℕ) → l.self.next ≤ q → q < l.number → skips l.self.mode (mark_on l.heap.pages.marks q) ≡ true
