use Rattle.sound_entries.proofs.Since.{finishing-since}
use Rattle.sound_entries.proofs.laws.finishing_keeps_since.Goals as goal

pub returns : goal.returns
returns c = finishing-since
