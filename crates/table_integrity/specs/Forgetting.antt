-- What forgetting old ids leaves of a table, and of indexes that are exact from an id on.
use Rattle.std.specs.Prelude.{◌≤◌, ℕ, Option}
use Rattle.commit_status.specs.Window.{Window, IsWindow, IsUpToNext, turns}
use Rattle.commit_status.specs.Changes.{Truncates}
use Rattle.snapshot.specs.Snap.{Snap}
use Rattle.forgetting.specs.Pages.{AreYoung}
use Rattle.index_lookup.specs.Pages.{slots_on}
use Rattle.sound_entries.specs.Since.{IsExactSince, MayScanSince}
use Rattle.table_indexes.specs.Indexes.{since_at, since_after}
use Rattle.heap_write.specs.Heap.{HeapView, slots_of}
use Rattle.heap_write.specs.Cleaning.{ForgetsBefore}
use Rattle.table_integrity.specs.Table.{SoundTable}

-- the table stays sound, if no version there needs an id that is forgotten
abbrev pub ForgettingKeepsTable : Type 0
ForgettingKeepsTable = (h h' : HeapView) (c : ℕ) → SoundTable h → IsWindow h.statuses → IsUpToNext h.statuses c
    → ((n : ℕ) → AreYoung h.statuses c (slots_on (slots_of h) n)) → ((n : ℕ) → IsExactSince h.statuses (since_at h.indexes n))
    → ForgetsBefore h h' c → SoundTable h'

-- the id from which on an index is exact stays remembered or next, with none in progress before it
abbrev pub ForgettingKeepsSince : Type 0
ForgettingKeepsSince = (w v : Window) (c : ℕ) (since : Option ℕ) → IsWindow w → IsUpToNext w c → Truncates w v c
    → IsExactSince w since → IsExactSince v (since_after c since)

-- and whoever might scan still may, if the snapshot's xmin is not forgotten
abbrev pub ForgettingKeepsScan : Type 0
ForgettingKeepsScan = (w v : Window) (c : ℕ) (since : Option ℕ) (s : Snap) → IsWindow w → IsUpToNext w c → Truncates w v c
    → IsExactSince w since → IsUpToNext w s.xmin → turns w.first c ≤ turns w.first s.xmin → MayScanSince w since s → MayScanSince v (since_after c since) s
