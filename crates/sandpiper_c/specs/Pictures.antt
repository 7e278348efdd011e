-- The picture of a table, as C asks for it.
use Rattle.std.specs.Prelude.{◌≡◌, ℕ, List, Option, Some, None}
use Rattle.xid_circle.specs.Numbers.{PageNo, Count}
use Rattle.c_views.specs.Pictures.{ShowsPicture}
use Rattle.c_handles.specs.declared.database.Sandpiper.{Sandpiper}
use Rattle.c_handles.specs.declared.held.Held.{Held}
use Rattle.c_handles.specs.declared.status.CallStatus.TheVariants as status
use Rattle.c_handles.specs.CallStatus.{number_of_status}
use Rattle.sandpiper_c.specs.Calls.{held_by}

abbrev pub PictureBy : Option Held → List PageNo → (old : List ℕ) → (code : ℕ) → (new : List ℕ) → Count → Type 0
PictureBy None pages old code new size = (code ≡ number_of_status status.NoEngine) × (new ≡ old) × (size ≡ 0)
PictureBy (Some held) pages old code new size = ShowsPicture held.engine pages old code new size

-- it is shown, with its length, or there is none, and the status says why
abbrev pub PictureOf : Sandpiper → List PageNo → (old : List ℕ) → (code : ℕ) → (new : List ℕ) → Count → Type 0
PictureOf table pages old code new size = PictureBy (held_by table) pages old code new size
