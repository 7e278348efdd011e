use Rattle.std.proofs.Common.{◌≡◌, ◌++◌, take}
use Rattle.view_text.specs.Answers.{numbers_text}
use Rattle.commit_status.specs.Changes.{numbers}
use Rattle.view_text.proofs.session.own_ids.Given as goal

abbrev pub invariant-loop-x : goal.invariant-loop-x
invariant-loop-x l = l.out.items ≡ l.initial.out.items ++ numbers_text (numbers (take l.x-index l.ids))
