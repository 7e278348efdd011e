use Rattle.sound_entries.proofs.Since.{giving-since}
use Rattle.sound_entries.proofs.laws.giving_keeps_since.Goals as goal

pub returns : goal.returns
returns c = giving-since
