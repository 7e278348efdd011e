use Rattle.std.proofs.Common.{◌≡◌, ◌*◌, ◌++◌, drop}
use Rattle.std.specs.Option.{option_map}
use Rattle.script_text.specs.Reading.{pairs_of}
use Rattle.script_text.proofs.words.pairs.Given as goal

abbrev pub invariant-loop-i : goal.invariant-loop-i
invariant-loop-i l = option_map (λ rest. l.bytes.items ++ rest) (pairs_of (drop (2 * l.i) l.word)) ≡ pairs_of l.word
