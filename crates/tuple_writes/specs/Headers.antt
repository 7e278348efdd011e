-- The headers that writes make. (What heap_insert, heap_delete and heap_update of src/backend/access/heap/heapam.c leave in
-- a header; README.HOT for the marks of a chain.)
use Rattle.std.specs.Prelude.{ℕ, Bool, bit_and, bit_or, if◌then◌else◌}
use Rattle.xid_circle.specs.Numbers.{Id, PageNo, SlotNo}
use Rattle.tuple_header.specs.declared.version.Header.{Header}
use Rattle.tuple_header.specs.Marks.{inserted_header}

-- without the mark of a HOT update
abbrev pub without_hot_updated : ℕ → ℕ
without_hot_updated mask2 = bit_and mask2 0xbfff

-- without what was known of a deleter: neither that it is committed nor that it is aborted or none
abbrev pub without_deleter : ℕ → ℕ
without_deleter mask = bit_and mask 0xf3ff

abbrev pub marked_hot : Bool → ℕ → ℕ
marked_hot hot mask2 = if hot then bit_or 0x4000 (without_hot_updated mask2) else without_hot_updated mask2

-- an id took the version away, and its successor is at this place: by a HOT update or not. Whatever an aborted deleter left
-- is written over.
abbrev pub replaced_header : Header → (x : Id) → PageNo → SlotNo → (hot : Bool) → Header
replaced_header h x page slot hot = record h {
  xmax = record { 0 = x };
  ctid = record { page = page; slot = slot };
  mask2 = marked_hot hot h.mask2;
  mask = without_deleter h.mask;
}

-- an id has just made the version at this place, as a root: by an insert, or by an update that is not HOT
abbrev pub root_header : (updated : Bool) → (x : Id) → PageNo → SlotNo → Header
root_header updated x page slot = record (inserted_header x page slot) { mask = if updated then 0x2800 else 0x0800 }

-- an id has just made the version at this place, by a HOT update
abbrev pub heap_only_header : ℕ → ℕ → ℕ → Header
heap_only_header x page slot = record (inserted_header x page slot) { mask2 = 0x8006; mask = 0x2800 }
