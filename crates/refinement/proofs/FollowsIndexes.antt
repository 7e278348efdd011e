-- An index is made: the reply is one that the history allows, and the engine agrees with the next world.
use Rattle.std.proofs.Common.{◌≡◌, ℕ, suc, ◌<◌, Bool, true, false}
use Rattle.std.specs.Prelude.{if◌then◌else◌}
use Rattle.history.specs.World.{World, SomeoneHasWritten}
use Rattle.history.specs.Moves.{with_made_index, with_index_on}
use Rattle.calls.specs.declared.step.Step.TheVariants as step
use Rattle.calls.specs.declared.reply.Reply.TheVariants as reply
use Rattle.refinement.specs.Heap.{Heap}
use Rattle.refinement.specs.Agrees.{HeapAgrees}
use Rattle.refinement.proofs.Steps.{Agrees-indexes}
use Rattle.refinement.proofs.FollowsCursors.{FollowsWhere}

-- the pages and the ids stay, and the index comes
Agrees-index_on : (h : Heap) (w : World) (c : ℕ) → HeapAgrees h w → HeapAgrees h (with_index_on w c)
Agrees-index_on h w c agrees = by (w.has_index (suc c))
  where
    by : (has : Bool) → HeapAgrees h (if has then w else with_made_index w (suc c))
    by true = agrees
    by false = Agrees-indexes h w (with_made_index w (suc c)).has_index (with_made_index w (suc c)).too_new agrees

-- where the index is not there, nobody has written, and no vacuum runs
pub Follows-create_index : (h : Heap) (c : ℕ) → c < 4 → FollowsWhere (λ w. w.has_index (suc c) ≡ false → (¬ SomeoneHasWritten w) × (w.has_vacuum ≡ false)) h (step.CreateIndex c) reply.Done h
Follows-create_index h c within w none agrees = (((within, λ lacks. (none lacks).0), λ lacks. (none lacks).1), Agrees-index_on h w c agrees)
