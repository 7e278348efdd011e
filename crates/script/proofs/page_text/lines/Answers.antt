use Rattle.script.proofs.PageTextLemmas.{inspected_lines-next}
use Rattle.script.proofs.page_text.lines.Goals as goal

pub loop-i-preserved : goal.loop-i-preserved
loop-i-preserved c = inspected_lines-next _ _ _ _ _ _ c.loop-i.invariant c.in_ok-line_if_there.ensures
