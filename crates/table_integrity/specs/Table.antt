-- A sound table: what every step keeps of a table's pages, its ids and its indexes.
use Rattle.std.specs.Prelude.{◌≡◌, ◌↔◌, ℕ, Some}
use Rattle.xid_circle.specs.declared.Tid.{Tid}
use Rattle.tuple_header.specs.Version.{Version}
use Rattle.tuple_writes.specs.Keeps.{IsMade, HasNoXmax}
use Rattle.tuple_header.specs.IndexValue.{value_in}
use Rattle.index_lookup.specs.Pages.{version_in}
use Rattle.sound_entries.specs.Entries.{SoundHeap, SoundEntries, KeepsTargets}
use Rattle.table_indexes.specs.Indexes.{entries_in, since_at, IsInUse}
use Rattle.heap_write.specs.Heap.{HeapView, slots_of}

-- what a table keeps
pub record SoundTable (h : HeapView) : Type 0 where
  -- each page is sound
  pub heap : SoundHeap h.statuses (slots_of h)
  -- the entries of each index in use lead to the roots of chains of their values and keys, but for what is excused there
  pub indexes : (n : ℕ) → IsInUse h.indexes n → SoundEntries (value_in n) (since_at h.indexes n) h.statuses (slots_of h) (entries_in h.indexes n)

-- a step leaves it so, with the same indexes in use, exact from the same ids on, and what an entry leads to stays, or becomes a
-- redirect or dead
pub record StaysSoundTable (h h' : HeapView) : Type 0 where
  pub sound : SoundTable h'
  pub in_use : (n : ℕ) → IsInUse h.indexes n ↔ IsInUse h'.indexes n
  pub since : (n : ℕ) → since_at h'.indexes n ≡ since_at h.indexes n
  pub led : (n : ℕ) → KeepsTargets (slots_of h) (slots_of h') (entries_in h.indexes n) (entries_in h'.indexes n)

-- a version at the place may be taken away: its making counts, or may yet, and no deleter does
pub record MayDelete (h : HeapView) (place : Tid) (t : Version) : Type 0 where
  pub there : version_in (slots_of h) place ≡ Some t
  pub made : IsMade h.statuses t.header
  pub untaken : HasNoXmax h.statuses t.header
