-- What pruning would do to a slot, as C reads it.
use Rattle.std.specs.Prelude.{◌≡◌, ℕ, Option, Some, None}
use Rattle.xid_circle.specs.Numbers.{PageNo, SlotNo}
use Rattle.index_lookup.specs.Pages.{slots_on}
use Rattle.heap_write.specs.Heap.{slots_of}
use Rattle.slot_fates.specs.declared.fate.VersionFate.{VersionFate}
use Rattle.slot_fates.specs.declared.fate.VersionFate.TheVariants.{RolledBack, Deleted, GoesWith, Kept}
use Rattle.slot_fates.specs.declared.fate.SlotFate.{SlotFate}
use Rattle.slot_fates.specs.declared.fate.SlotFate.TheVariants.{NoSlot, Unused, Dead, Redirect, Version}
use Rattle.slot_fates.specs.Fates.{IsFate}
use Rattle.session_steps.specs.State.{State, horizon_of}
use Rattle.c_views.specs.declared.fate.SandpiperFate.{SandpiperFate}
use Rattle.c_views.specs.Ids.{number_of_id_status}

abbrev pub shown_version_fate : VersionFate → SandpiperFate
shown_version_fate (RolledBack x) = record { kind = 4; id = x.0; status = 0; slot = 0 }
shown_version_fate (Deleted x) = record { kind = 5; id = x.0; status = 0; slot = 0 }
shown_version_fate (GoesWith later) = record { kind = 6; id = 0; status = 0; slot = later }
shown_version_fate (Kept None) = record { kind = 7; id = 0; status = 0; slot = 0 }
shown_version_fate (Kept (Some deleter)) = record { kind = 8; id = deleter.id.0; status = number_of_id_status deleter.status; slot = 0 }

abbrev pub shown_fate : SlotFate → SandpiperFate
shown_fate NoSlot = record { kind = 0; id = 0; status = 0; slot = 0 }
shown_fate Unused = record { kind = 1; id = 0; status = 0; slot = 0 }
shown_fate Dead = record { kind = 2; id = 0; status = 0; slot = 0 }
shown_fate (Redirect target) = record { kind = 3; id = 0; status = 0; slot = target }
shown_fate (Version told) = shown_version_fate told

-- the fate of the slot, at the engine's horizon
pub record IsFateShown (st : State) (page : PageNo) (slot : SlotNo) (shown : SandpiperFate) : Type 0 where
  pub fate : SlotFate
  pub is_fate : IsFate st.heap.statuses (horizon_of st) (slots_on (slots_of st.heap) page) slot fate
  pub is_shown : shown ≡ shown_fate fate
