use Rattle.std.proofs.Common.{◌≡◌, ◌++◌, take}
use Rattle.stories.specs.Html.{html}
use Rattle.stories.proofs.explaining.escape.Given as goal

abbrev pub invariant-loop-b : goal.invariant-loop-b
invariant-loop-b l = l.out.items ≡ l.initial.out.items ++ html (take l.b-index l.text)
