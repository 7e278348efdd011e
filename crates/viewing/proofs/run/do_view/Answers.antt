use Rattle.viewing.proofs.RunLemmas.{did_line, did_look}
use Rattle.viewing.proofs.run.do_view.Goals as goal

pub returns-then-branch-clause-done : goal.returns-then-branch-clause-done
returns-then-branch-clause-done c = did_line _ _ _ _ _ (rw c.if-branch.true at c.in_ok-do_line.ensures.done)

pub returns-in_ok-show_look-in-Some-clause-done : goal.returns-in_ok-show_look-in-Some-clause-done
returns-in_ok-show_look-in-Some-clause-done c =
    let kept = rw c.if-branch.false at c.in_ok-do_line.ensures.kept in
    let same = rw c.if-branch.false at c.in_ok-do_line.ensures.same in
    did_look _ _ _ _ _ _ c.in-Some.look c.in-Some.ensures kept same c.in_ok-show_look-in-Some.ensures
