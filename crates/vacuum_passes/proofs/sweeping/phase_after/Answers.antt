use Rattle.std.proofs.Common.{refl}
use Rattle.vacuum_passes.specs.Steps.{PhaseAfter}
use Rattle.vacuum_passes.proofs.sweeping.phase_after.Goals as goal

pub returns-in-Some : goal.returns-in-Some
returns-in-Some c = PhaseAfter.onward c.in-Some.next refl c.in-Some.ensures refl
