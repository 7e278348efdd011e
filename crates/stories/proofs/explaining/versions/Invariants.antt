use Rattle.std.proofs.Common.{◌≡◌, ◌++◌, take}
use Rattle.stories.specs.Html.{versions_html}
use Rattle.stories.proofs.explaining.versions.Given as goal

abbrev pub invariant-loop-one : goal.invariant-loop-one
invariant-loop-one l = l.out.items ≡ l.initial.out.items ++ versions_html l.s (take l.one-index l.of)
