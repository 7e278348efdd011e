use Rattle.std.proofs.Common.{◌≡◌, Some, map}
use Rattle.reply_text.specs.Reading.{each_of, row_line_of}
use Rattle.reply_text.proofs.rows.rows_of_lines.Given as goal

-- the rows of the lines so far
abbrev pub invariant-loop-line : goal.invariant-loop-line
invariant-loop-line l = each_of row_line_of (map (λ x. x.now) l.yielded) ≡ Some l.rows.items
