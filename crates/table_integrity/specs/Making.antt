-- What making an index in use leaves of a table.
use Rattle.std.specs.Prelude.{◌≡◌, ℕ, Some}
use Rattle.xid_circle.specs.declared.Tid.{Tid}
use Rattle.tuple_header.specs.Version.{Version}
use Rattle.commit_status.specs.Window.{IsWindow, IsActive, IsGiven}
use Rattle.visibility.specs.Visible.{IsFrozen}
use Rattle.index_lookup.specs.Pages.{version_in}
use Rattle.sound_entries.specs.Entries.{KeepsTargets}
use Rattle.sound_entries.specs.Since.{IsExactSince}
use Rattle.table_indexes.specs.Indexes.{entries_in, since_at}
use Rattle.heap_write.specs.Heap.{HeapView, slots_of}
use Rattle.heap_write.specs.Making.{MakesIndex}
use Rattle.table_integrity.specs.Table.{SoundTable}

-- each id that was given has ended, and one of them made each version that is not frozen
pub record AllHaveEnded (h : HeapView) : Type 0 where
  pub window : IsWindow h.statuses
  pub ended : (x : ℕ) → ¬ IsActive h.statuses x
  pub makers : (p : Tid) (t : Version) → version_in (slots_of h) p ≡ Some t → ¬ IsFrozen t.header → IsGiven h.statuses t.header.xmin.0

-- the table stays sound,
abbrev pub MakingLeavesTableSound : Type 0
MakingLeavesTableSound = (h h' : HeapView) (column : ℕ) → SoundTable h → AllHaveEnded h → MakesIndex h h' column → SoundTable h'

-- what an entry leads to stays,
abbrev pub MakingKeepsTargets : Type 0
MakingKeepsTargets = (h h' : HeapView) (column : ℕ) → SoundTable h → MakesIndex h h' column
    → (n : ℕ) → KeepsTargets (slots_of h) (slots_of h') (entries_in h.indexes n) (entries_in h'.indexes n)

-- and each id from which on an index is exact is remembered or next, with none in progress before it
abbrev pub MakingKeepsSince : Type 0
MakingKeepsSince = (h h' : HeapView) (column : ℕ) → AllHaveEnded h → MakesIndex h h' column
    → ((n : ℕ) → IsExactSince h.statuses (since_at h.indexes n)) → (n : ℕ) → IsExactSince h'.statuses (since_at h'.indexes n)
