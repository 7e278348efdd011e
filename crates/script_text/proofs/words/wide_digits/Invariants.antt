use Rattle.std.proofs.Common.{◌≡◌, ◌≤◌, drop}
use Rattle.script_text.specs.Reading.{digits_on}
use Rattle.script_text.proofs.words.wide_digits.Given as goal

abbrev pub invariant-loop-b : goal.invariant-loop-b
invariant-loop-b l = (digits_on l.max l.n (drop l.b-index l.word) ≡ digits_on l.max 0 l.word) × (l.n ≤ l.max)
