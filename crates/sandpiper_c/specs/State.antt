-- What a table is like, in C's place.
use Rattle.std.specs.Prelude.{◌≡◌, ℕ, Option, Some, None}
use Rattle.c_views.specs.declared.state.SandpiperState.{SandpiperState}
use Rattle.c_views.specs.State.{ShowsState}
use Rattle.c_handles.specs.declared.database.Sandpiper.{Sandpiper}
use Rattle.c_handles.specs.declared.held.Held.{Held}
use Rattle.c_handles.specs.declared.status.CallStatus.TheVariants as status
use Rattle.c_handles.specs.CallStatus.{number_of_status}
use Rattle.sandpiper_c.specs.Calls.{held_by}

-- C's place has it, if there is an engine, and is else as it was; the status says which
abbrev pub ShowsStateBy : Option Held → SandpiperState → ℕ → SandpiperState → Type 0
ShowsStateBy None old code new = (code ≡ number_of_status status.NoEngine) × (new ≡ old)
ShowsStateBy (Some held) old code new = (code ≡ number_of_status status.Done) × ShowsState held.engine new

abbrev pub ShowsStateOf : Sandpiper → SandpiperState → ℕ → SandpiperState → Type 0
ShowsStateOf table old code new = ShowsStateBy (held_by table) old code new
