use Rattle.script_text.proofs.GrammarLaws.{spells_read}
use Rattle.script_text.proofs.line.line_at.Goals as goal

pub returns : goal.returns
returns c = spells_read _ _ c.read_line.ensures
