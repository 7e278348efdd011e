use Rattle.std.proofs.Common.{refl, get_or}
use Rattle.prune_actions.specs.declared.Action.TheVariants as action
use Rattle.prune.proofs.Listing.{prefix-of}
use Rattle.prune.proofs.NamedLemmas.{naming-start, naming-step}
use Rattle.prune.proofs.checking.named_by.Goals as goal

pub loop-action-init : goal.loop-action-init
loop-action-init c = naming-start c.args.actions.now _ refl c.requires

pub loop-action-preserved : goal.loop-action-preserved
loop-action-preserved c =
    rw c.from.ensures (naming-step c.args.actions.now c.loop-action.named c.loop-action.action-index (get_or c.args.actions.now c.loop-action.action-index (0, action.Unuse))
    c.loop-action.invariant (prefix-of c.args.actions.now c.loop-action.action-index (0, action.Unuse) c.loop-action-test.true))
