use Rattle.c_views.proofs.ActionsLemmas.{actions-next}
use Rattle.c_views.proofs.plan.put_actions.Goals as goal

pub loop-number-preserved : goal.loop-number-preserved
loop-number-preserved c =
    actions-next c.args.actions.now c.args.places.now c.loop-number.places c.loop-number.number _ c.of_action.result
    c.loop-number-test.true c.requires c.loop-number.invariant c.of_action.ensures
