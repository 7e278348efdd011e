use Rattle.std.proofs.Common.{◌≡◌, Some, map}
use Rattle.reply_text.specs.Reading.{each_of, key_line_of}
use Rattle.reply_text.proofs.rows.keys_of_lines.Given as goal

-- the keys of the lines so far
abbrev pub invariant-loop-line : goal.invariant-loop-line
invariant-loop-line l = each_of key_line_of (map (λ x. x.now) l.yielded) ≡ Some l.keys.items
