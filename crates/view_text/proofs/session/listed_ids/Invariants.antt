use Rattle.std.proofs.Common.{◌≡◌, ◌++◌, take}
use Rattle.view_text.specs.Answers.{numbers_text}
use Rattle.view_text.proofs.session.listed_ids.Given as goal

abbrev pub invariant-loop-x : goal.invariant-loop-x
invariant-loop-x l = l.out.items ≡ l.initial.out.items ++ numbers_text (take l.x-index l.listed)
