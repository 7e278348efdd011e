use Rattle.script.proofs.PiecesLemmas.{Takes-Takes}
use Rattle.script.proofs.page_bytes.read_page.Goals as goal

pub loop-pending-preserved : goal.loop-pending-preserved
loop-pending-preserved g c = Takes-Takes _ _ _ _ _ _ c.loop-pending.invariant c.in_ok-refill.ensures.takes
