-- What the marks of a header say (src/include/access/htup_details.h; README.HOT for the first two).
use Rattle.std.specs.Prelude.{ℕ, Bool, ◌==◌, bit_and}
use Rattle.tuple_header.specs.declared.version.Header.{Header}
use Rattle.tuple_header.specs.Faults.{has_mark}

-- an update put its successor on the same page, with no index entry of its own
abbrev pub is_hot_updated : Header → Bool
is_hot_updated h = has_mark h.mask2 0x4000

-- it is such a successor
abbrev pub is_heap_only : Header → Bool
is_heap_only h = has_mark h.mask2 0x8000

-- both marks of the inserter together: it is committed for everybody, whatever its number
abbrev pub is_frozen : Header → Bool
is_frozen h = bit_and h.mask 0x0300 == 0x0300

-- the header of a version that an id has just made at a place: six attributes, and nobody has deleted it
abbrev pub inserted_header : ℕ → ℕ → ℕ → Header
inserted_header xmin page slot = record {
  xmin = record { 0 = xmin };
  xmax = record { 0 = 0 };
  ctid = record { page = page; slot = slot };
  mask2 = 6;
  mask = 0x0800;
}
