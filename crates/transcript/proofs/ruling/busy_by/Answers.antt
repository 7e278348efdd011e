use Rattle.judge.proofs.Reasoning.{not_of}
use Rattle.transcript.proofs.RulingLemmas.{busy_more}
use Rattle.transcript.proofs.ruling.busy_by.Goals as goal

pub loop-s-preserved : goal.loop-s-preserved
loop-s-preserved c = busy_more _ _ c.loop-s.s c.loop-s.invariant (not_of c.allows.result c.if-allows.false c.allows.ensures)
