-- What each step keeps of a table.
use Rattle.std.specs.Prelude.{◌≡◌, ℕ, List, [], Contains}
use Rattle.xid_circle.specs.declared.Tid.{Tid}
use Rattle.tuple_header.specs.Version.{Version}
use Rattle.tuple_header.specs.declared.version.Row.{Row}
use Rattle.commit_status.specs.declared.status.Status.{Status}
use Rattle.commit_status.specs.declared.status.Status.TheVariants.{Committed, Aborted}
use Rattle.commit_status.specs.Window.{IsWindow, IsActive}
use Rattle.commit_status.specs.Changes as changes
use Rattle.snapshot.specs.Own.{Own}
use Rattle.tuple_writes.specs.Laws.{DeletedWhatWasMade, AloneDeletedTheirs}
use Rattle.prune_actions.specs.declared.Action.{Action}
use Rattle.index_lookup.specs.Pages.{slots_on}
use Rattle.table_indexes.specs.Indexes.{entries_in}
use Rattle.heap_write.specs.Heap.{HeapView, slots_of, Keeps}
use Rattle.heap_write.specs.Writes.{Inserts, Updates, Deletes, Prunes, Applies}
use Rattle.heap_write.specs.Refusals.{FailsUpdate}
use Rattle.heap_write.specs.declared.heap.WriteFault.{WriteFault}
use Rattle.table_integrity.specs.Table.{SoundTable, StaysSoundTable, MayDelete}

-- Writes. The ids that the writer has are in progress; so are those that it is given.

pub record WritesUnder (h h' : HeapView) (own : Own) : Type 0 where
  pub before : IsWindow h.statuses
  pub after : IsWindow h'.statuses
  pub active : (x : ℕ) → Contains own.ids x → IsActive h.statuses x

abbrev pub InsertingKeepsTable : Type 0
InsertingKeepsTable = (h h' : HeapView) (own own' : Own) (row : Row) (x : ℕ) → SoundTable h → WritesUnder h h' own
    → Inserts h h' own own' row x → StaysSoundTable h h'

-- the new row has the key of the old one; if the page of the old version is pruned, then at this horizon
abbrev pub UpdatingKeepsTable : Type 0
UpdatingKeepsTable = (h h' : HeapView) (horizon : ℕ) (own own' : Own) (place : Tid) (t : Version) (row : Row) (x : ℕ) → SoundTable h → WritesUnder h h' own
    → MayDelete h place t → row.key ≡ t.row.key → Updates h h' own own' place row horizon x → StaysSoundTable h h'

abbrev pub DeletingKeepsTable : Type 0
DeletingKeepsTable = (h h' : HeapView) (own own' : Own) (place : Tid) (t : Version) (x : ℕ) → SoundTable h → WritesUnder h h' own
    → MayDelete h place t → Deletes h h' own own' place x → StaysSoundTable h h'

-- an update that fails has pruned a page at most
abbrev pub FailingUpdateKeepsTable : Type 0
FailingUpdateKeepsTable = (h h' : HeapView) (horizon : ℕ) (own : Own) (place : Tid) (row : Row) (fault : WriteFault) → SoundTable h
    → FailsUpdate h h' own place row horizon fault → StaysSoundTable h h'

-- Steps that write no row.

abbrev pub PruningKeepsTable : Type 0
PruningKeepsTable = (h h' : HeapView) (number horizon : ℕ) → SoundTable h → Prunes h h' number horizon → StaysSoundTable h h'

-- a plan that checks, whoever made it, and when
abbrev pub ApplyingKeepsTable : Type 0
ApplyingKeepsTable = (h h' : HeapView) (number horizon change : ℕ) (actions : List (ℕ × Action)) → SoundTable h → Applies h h' number horizon change actions
    → StaysSoundTable h h'

-- more memory alone
abbrev pub KeepingKeepsTable : Type 0
KeepingKeepsTable = (h h' : HeapView) → SoundTable h → Keeps h h' → StaysSoundTable h h'

-- ids in progress take a final status, and all else stays
pub record FinishesInTable (h h' : HeapView) (ids : List ℕ) (status : Status) : Type 0 where
  pub active : (x : ℕ) → Contains ids x → IsActive h.statuses x
  pub finishes : changes.Finishes h.statuses h'.statuses ids status
  pub pages : h'.pages ≡ h.pages
  pub indexes : h'.indexes ≡ h.indexes

abbrev pub CommittingKeepsTable : Type 0
CommittingKeepsTable = (h h' : HeapView) (ids : List ℕ) → SoundTable h → FinishesInTable h h' ids Committed
    → ((n : ℕ) → DeletedWhatWasMade h.statuses (slots_on (slots_of h) n) ids) → StaysSoundTable h h'

abbrev pub AbortingKeepsTable : Type 0
AbortingKeepsTable = (h h' : HeapView) (ids : List ℕ) → SoundTable h → FinishesInTable h h' ids Aborted
    → ((n : ℕ) → AloneDeletedTheirs h.statuses (slots_on (slots_of h) n) ids) → StaysSoundTable h h'

-- a table without pages and entries
abbrev pub EmptyTableIsSound : Type 0
EmptyTableIsSound = (h : HeapView) → h.pages.pages ≡ [] → ((n : ℕ) → entries_in h.indexes n ≡ []) → SoundTable h
