use Rattle.std.proofs.Common.{◌≡◌, ◌++◌, take}
use Rattle.view_text.specs.Answers.{explained_lines}
use Rattle.view_text.proofs.versions.entries.Given as goal

abbrev pub invariant-loop-one : goal.invariant-loop-one
invariant-loop-one l = l.out.items ≡ l.initial.out.items ++ explained_lines (take l.one-index l.entries)
