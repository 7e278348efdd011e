-- What a call does that writes many rows.
use Rattle.std.specs.Prelude.{◌≡◌, ◌≢◌, ◌⊎◌, ℕ, List, [], ◌∷◌, length, take, slice_get, Some}
use Rattle.tuple_header.specs.declared.row_place.RowPlace.{RowPlace}
use Rattle.calls.specs.declared.step.Step.{Step}
use Rattle.calls.specs.Words.{RowToWrite}
use Rattle.c_handles.specs.declared.database.Sandpiper.{Sandpiper}
use Rattle.c_handles.specs.declared.status.CallStatus.TheVariants as status
use Rattle.c_handles.specs.CallStatus.{number_of_status}
use Rattle.sandpiper_c.specs.Calls.{Writes}

-- the rows are written one after another, and none is refused
abbrev pub AreWritten : (RowToWrite → Step) → Sandpiper → List RowPlace → Sandpiper → Type 0
AreWritten step old [] new = new ≡ old
AreWritten step old (row ∷ rows) new = (between : Sandpiper) × Writes old step row (number_of_status status.Done) between × AreWritten step between rows new

-- the row of this number is refused, with this status
pub record RefusesRow (step : RowToWrite → Step) (old : Sandpiper) (rows : List RowPlace) (number code : ℕ) (new : Sandpiper) : Type 0 where
  pub row : RowPlace
  pub is : slice_get rows number ≡ Some row
  pub writes : Writes old step row code new
  pub refused : code ≢ number_of_status status.Done

-- so many rows are written, and they are all, or the next one is refused
pub record WritesMany (step : RowToWrite → Step) (old : Sandpiper) (rows : List RowPlace) (done code : ℕ) (new : Sandpiper) : Type 0 where
  pub between : Sandpiper
  pub written : AreWritten step old (take done rows) between
  pub rest : ((done ≡ length rows) × (code ≡ number_of_status status.Done) × (new ≡ between)) ⊎ RefusesRow step between rows done code new
