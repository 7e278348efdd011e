-- What has been judged.
use Rattle.std.specs.Prelude.{◌≡◌, ℕ, List, take, slice_get, Some}
use Rattle.history.specs.World.{World}
use Rattle.calls.specs.declared.step.Step.{Step}
use Rattle.calls.specs.declared.reply.Reply.{Reply}
use Rattle.refinement.specs.Allowed.{IsRun, after}
use Rattle.following.specs.Following.{TakesMemory}

-- the history allows the first n replies to the first n steps, and this is the world after them
pub record HasJudged (w : World) (steps : List Step) (replies : List Reply) (n : ℕ) (now : World) : Type 0 where
  pub run : IsRun w (take n steps) (take n replies)
  pub is : now ≡ after w (take n steps) (take n replies)

-- so many are judged, and to follow the next takes memory
abbrev pub StopsForMemory : World → List Step → List Reply → World → Type 0
StopsForMemory w steps replies now = (n : ℕ) × (step : Step) × (reply : Reply) × HasJudged w steps replies n now
    × (slice_get steps n ≡ Some step) × (slice_get replies n ≡ Some reply) × TakesMemory step reply
