use Rattle.script_text.proofs.HeadingLaws.{spells_settings}
use Rattle.script_text.proofs.heading.settings_at.Goals as goal

pub returns : goal.returns
returns c = spells_settings _ _ c.read_settings.ensures
