use Rattle.transcript.proofs.RulingLemmas.{by_named}
use Rattle.transcript.proofs.ruling.judge_busy.Goals as goal

pub returns-in-Ok : goal.returns-in-Ok
returns-in-Ok c = by_named _ _ c.args.step.now _ c.in-Ok.verdict c.busy_by-s.ensures c.in-Ok.ensures
