use Rattle.std.proofs.Common.{◌≡◌, ◌++◌, take}
use Rattle.view_text.specs.Answers.{version_lines}
use Rattle.view_text.proofs.versions.versions.Given as goal

abbrev pub invariant-loop-one : goal.invariant-loop-one
invariant-loop-one l = l.out.items ≡ l.initial.out.items ++ version_lines l.fn.page (take l.one-index l.versions)
