use Rattle.sound_entries.proofs.Since.{scan-unexcused}
use Rattle.sound_entries.proofs.laws.who_may_scan_sees_no_excused.Goals as goal

pub returns : goal.returns
returns c = scan-unexcused
