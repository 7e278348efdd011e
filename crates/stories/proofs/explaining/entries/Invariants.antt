use Rattle.std.proofs.Common.{◌≡◌, ◌++◌, take}
use Rattle.stories.specs.Html.{entries_html}
use Rattle.stories.proofs.explaining.entries.Given as goal

abbrev pub invariant-loop-one : goal.invariant-loop-one
invariant-loop-one l = l.out.items ≡ l.initial.out.items ++ entries_html l.s l.key (take l.one-index l.of)
