use Rattle.plain_history.specs.Plain.{world_of}
use Rattle.judge.specs.Runs.{HasJudged}
use Rattle.judge.proofs.all.judge_all.Given as goal

abbrev pub invariant-loop-i : goal.invariant-loop-i
invariant-loop-i l = HasJudged (world_of l.fn.judge) l.steps l.replies l.i (world_of l.judge)
