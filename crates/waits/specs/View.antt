-- For whom each session waits, as a list.
use Rattle.std.specs.Prelude.{List, Option, slice_get}
use Rattle.std.specs.Option.{option_flatten}
use Rattle.xid_circle.specs.Numbers.{SessionNo}

-- for whom the session waits; who has no place in the list waits for nobody
abbrev pub wait_in : List (Option SessionNo) → SessionNo → Option SessionNo
wait_in waits s = option_flatten (slice_get waits s)
