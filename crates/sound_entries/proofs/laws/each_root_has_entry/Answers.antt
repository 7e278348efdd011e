use Rattle.sound_entries.proofs.Leads.{root-led}
use Rattle.sound_entries.proofs.laws.each_root_has_entry.Goals as goal

pub returns : goal.returns
returns c = root-led
