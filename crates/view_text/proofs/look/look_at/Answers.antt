use Rattle.view_text.proofs.LookLaws.{spells_look}
use Rattle.view_text.proofs.look.look_at.Goals as goal

pub returns : goal.returns
returns c = spells_look _ _ c.read_look.ensures
