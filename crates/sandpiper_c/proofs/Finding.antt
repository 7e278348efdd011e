-- A row that was looked for, as C is told of it.
use Rattle.std.proofs.Common.{◌≡◌, Option, Some, None, Ok, Err, refl}
use Rattle.std.specs.Prelude.{Result}
use Rattle.tuple_header.specs.declared.row_place.RowPlace.{RowPlace}
use Rattle.tuple_header.specs.declared.version.Row.{Row}
use Rattle.calls.specs.declared.reply.Refusal.{Refusal}
use Rattle.session_steps.specs.Replies.{found_reply}
use Rattle.session_core.specs.Gets.{whether_found, place_of_found}
use Rattle.c_handles.specs.CallStatus.{status_of_reply, status_of_found}
use Rattle.sandpiper_c.specs.Calls.{row_found_in, ShowsRow}

pub found-status : (found : Result (Option Row) Refusal) → status_of_found (whether_found found) ≡ status_of_reply (found_reply found)
found-status (Ok (Some row)) = refl
found-status (Ok None) = refl
found-status (Err r) = refl

pub found-shown : (found : Result (Option Row) Refusal) (place after : RowPlace) → after ≡ place_of_found found place → ShowsRow (row_found_in (Some (found_reply found))) place after
found-shown (Ok (Some row)) place after is = is
found-shown (Ok None) place after is = is
found-shown (Err r) place after is = is
