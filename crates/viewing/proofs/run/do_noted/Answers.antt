use Rattle.std.proofs.Common.{◌∙◌}
use Rattle.viewing.proofs.RunLemmas.{noted, taken_back}
use Rattle.viewing.proofs.run.do_noted.Goals as goal

pub returns-then-branch-clause-done : goal.returns-then-branch-clause-done
returns-then-branch-clause-done c = noted _ _ _ _ _ _ _ c.in_ok-note.ensures (rw c.if-branch.true at c.in_ok-do_view.ensures.done)

pub returns-clause-same : goal.returns-clause-same
returns-clause-same c =
    let same = rw c.if-branch.false at c.in_ok-do_view.ensures.same in
    taken_back _ _ _ _ _ (c.len-before.ensures ∙ c.args.text.now.ok.0) (same ∙ c.in_ok-note.ensures) c.truncate.ensures.items
