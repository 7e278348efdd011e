use Rattle.std.proofs.Common.{◌≡◌, ◌++◌, take}
use Rattle.script_text.specs.Answers.{row_lines}
use Rattle.script_text.proofs.answer.rows.Given as goal

abbrev pub invariant-loop-one : goal.invariant-loop-one
invariant-loop-one l = l.out.items ≡ l.initial.out.items ++ row_lines (take l.one-index l.rows)
