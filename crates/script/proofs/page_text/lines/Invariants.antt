use Rattle.std.proofs.Common.{◌≡◌, ◌++◌}
use Rattle.script.specs.PageText.{inspected_lines}
use Rattle.script.proofs.page_text.lines.Given as goal

abbrev pub invariant-loop-i : goal.invariant-loop-i
invariant-loop-i l = l.out.items ≡ l.initial.out.items ++ inspected_lines l.bytes l.i l.page.slots
