-- Why a savepoint is not set.
use Rattle.std.specs.Prelude.{◌≡◌, ◌<◌, ◌≤◌, length}
use Rattle.snapshot.specs.Own.{Own}
use Rattle.snapshot.specs.declared.own.SaveFault.{SaveFault}
use Rattle.snapshot.specs.declared.own.SaveFault.TheVariants.{TooDeep, NoMemory}
use Rattle.snapshot.specs.declared.own.TheConstants.{MOST_SAVEPOINTS}

-- There are 32 already; or there are fewer, four or more of them, and no further one can be set without memory. (A session's
-- first four take none.)
abbrev pub CannotSave : Own → SaveFault → Type 0
CannotSave own TooDeep = length own.saved ≡ MOST_SAVEPOINTS
CannotSave own NoMemory = (4 ≤ length own.saved) × (length own.saved < MOST_SAVEPOINTS) × (own.spare_marks ≡ 0)
