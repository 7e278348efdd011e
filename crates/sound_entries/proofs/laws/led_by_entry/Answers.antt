use Rattle.sound_entries.proofs.Leads.{led_by_one}
use Rattle.sound_entries.proofs.laws.led_by_entry.Goals as goal

pub returns : goal.returns
returns c = λ value_of since w pages entries p t sound at done needed. led_by_one value_of since w pages entries sound p t at done needed
