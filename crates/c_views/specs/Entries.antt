-- The entries of a key, as C reads them.
use Rattle.std.specs.Prelude.{◌≡◌, ℕ, ◌==◌, if◌then◌else◌, Option, Some, None}
use Rattle.std.specs.Option.{option_map}
use Rattle.xid_circle.specs.Numbers.{Key}
use Rattle.xid_circle.specs.declared.Tid.{Tid}
use Rattle.session_steps.specs.State.{State}
use Rattle.session_looks.specs.Explaining.{IsNextEntry}
use Rattle.c_views.specs.declared.entry.SandpiperPlace.{SandpiperPlace}

abbrev pub tid_of : SandpiperPlace → Tid
tid_of place = record { page = place.page; slot = place.slot }

abbrev pub place_of_tid : Tid → SandpiperPlace
place_of_tid place = record { page = place.page; slot = place.slot }

-- slot 0 is none: nothing is before the first entry
abbrev pub place_before : SandpiperPlace → Option Tid
place_before after = if after.slot == 0 then None else Some (tid_of after)

-- where the next entry of the key leads, as the engine's look tells it
pub record IsEntryAfter (st : State) (key : Key) (after : SandpiperPlace) (answer : Option SandpiperPlace) : Type 0 where
  pub entry : Option Tid
  pub is_next : IsNextEntry st key (place_before after) entry
  pub shown : answer ≡ option_map place_of_tid entry
