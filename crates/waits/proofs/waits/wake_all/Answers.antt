use Rattle.std.proofs.Common.{◌∙◌, ap, set, not, nat_eq, None}
use Rattle.std.proofs.lemmas.List.Edits.{map_over_more}
use Rattle.history.specs.Cursors.{kept_where}
use Rattle.waits.proofs.WaitLemmas.{get_or_twice}
use Rattle.waits.proofs.waits.wake_all.Goals as goal

pub loop-wait-preserved : goal.loop-wait-preserved
loop-wait-preserved c =
    ap (set c.loop-wait.waits c.loop-wait.wait-index) c.wake_one.ensures
    ∙ map_over_more (kept_where (λ o. not (nat_eq o c.args.s))) c.args.waits.now c.loop-wait.waits c.loop-wait.wait-index _ c.loop-wait-test.true c.loop-wait.invariant (get_or_twice c.loop-wait.waits c.loop-wait.wait-index None)
