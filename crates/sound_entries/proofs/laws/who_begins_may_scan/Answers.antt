use Rattle.sound_entries.proofs.Since.{begin-scan}
use Rattle.sound_entries.proofs.laws.who_begins_may_scan.Goals as goal

pub returns : goal.returns
returns c = begin-scan
