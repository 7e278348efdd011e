-- Which fates are those of dead versions.
use Rattle.std.specs.Prelude.{Bool, true, false}
use Rattle.slot_fates.specs.declared.fate.SlotFate.{SlotFate}
use Rattle.slot_fates.specs.declared.fate.SlotFate.TheVariants as fate
use Rattle.slot_fates.specs.declared.fate.VersionFate.TheVariants.{RolledBack, Deleted}

-- of a version that was rolled back, or whose deletion has committed and is before the horizon
abbrev pub is_dead_fate : SlotFate → Bool
is_dead_fate (fate.Version (RolledBack x)) = true
is_dead_fate (fate.Version (Deleted x)) = true
is_dead_fate f = false
