-- The vacuum that is running, as C reads it.
use Rattle.std.specs.Prelude.{ℕ, length, Some}
use Rattle.vacuum_passes.specs.declared.vacuum.Phase.{Phase}
use Rattle.vacuum_passes.specs.declared.vacuum.Phase.TheVariants.{Heap, Index, Free}
use Rattle.vacuum_passes.specs.View.{VacuumView}
use Rattle.c_views.specs.State.{number_of_mode}
use Rattle.c_views.specs.declared.vacuum.SandpiperVacuum.{SandpiperVacuum}

abbrev pub number_of_phase : Phase → ℕ
number_of_phase Heap = 0
number_of_phase (Index number after) = 1
number_of_phase Free = 2

abbrev pub index_in_phase : Phase → ℕ
index_in_phase Heap = 0
index_in_phase (Index number after) = number
index_in_phase Free = 0

abbrev pub shown_vacuum : VacuumView → SandpiperVacuum
shown_vacuum v = record {
  mode = number_of_mode (Some v.mode);
  phase = number_of_phase v.phase;
  index = index_in_phase v.phase;
  next = v.next;
  collected = length v.store;
  horizon = v.horizon;
  cutoff = v.cutoff;
}
