use Rattle.std.proofs.Common.{◌≡◌, ◌++◌}
use Rattle.script_text.specs.Answers.{slot_lines}
use Rattle.script_text.proofs.page.slots.Given as goal

abbrev pub invariant-loop-i : goal.invariant-loop-i
invariant-loop-i l = l.out.items ≡ l.initial.out.items ++ slot_lines l.i l.page.slots
