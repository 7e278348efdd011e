use Rattle.std.proofs.Common.{◌≡◌}
use Rattle.shapes.specs.Pictures.{numbers_below}
use Rattle.shapes.proofs.text.all_numbers.Given as goal

abbrev pub invariant-loop-number : goal.invariant-loop-number
invariant-loop-number l = l.numbers.items ≡ numbers_below l.number
