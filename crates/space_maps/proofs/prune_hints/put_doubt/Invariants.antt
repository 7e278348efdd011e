use Rattle.std.proofs.Common.{◌≡◌, length}
use Rattle.space_maps.proofs.prune_hints.put_doubt.Given as goal

abbrev pub invariant-loop-place : goal.invariant-loop-place
invariant-loop-place l = (l.numbers ≡ l.fn.numbers) × (length l.numbers ≡ 7)
