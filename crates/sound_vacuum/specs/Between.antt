-- What comes between the steps of a vacuum leaves its collected slots alone.
use Rattle.std.specs.Prelude.{◌≡◌, ℕ, List, Option, Contains}
use Rattle.xid_circle.specs.declared.Tid.{Tid}
use Rattle.tuple_header.specs.declared.version.Row.{Row}
use Rattle.commit_status.specs.declared.status.Status.{Status}
use Rattle.snapshot.specs.Own.{Own}
use Rattle.index_entries.specs.declared.entry.Entry.{Entry}
use Rattle.index_lookup.specs.Pages.{slot_in}
use Rattle.table_indexes.specs.Indexes.{entries_at, entries_in, IsInUse}
use Rattle.heap_write.specs.Heap.{HeapView, slots_of, Keeps}
use Rattle.heap_write.specs.Writes.{Inserts, Updates, Deletes, Prunes, Applies}
use Rattle.prune_actions.specs.declared.Action.{Action}
use Rattle.heap_write.specs.Refusals.{FailsUpdate}
use Rattle.heap_write.specs.declared.heap.WriteFault.{WriteFault}
use Rattle.table_integrity.specs.Table.{SoundTable, StaysSoundTable}
use Rattle.table_integrity.specs.Laws.{WritesUnder, FinishesInTable}
use Rattle.table_integrity.specs.Readers.{FindsTheSame}
use Rattle.snapshot.specs.Snap.{Snap}
use Rattle.root_index.specs.declared.progress.Progress.{Progress}
use Rattle.root_index.specs.declared.progress.Progress.TheVariants.{Done}
use Rattle.vacuum_passes.specs.Visits.{VisitsAt}
use Rattle.heap_write.specs.Cleaning.{SweepsAt, FreesAt}
use Rattle.sound_vacuum.specs.Freeing.{AreUnled}
use Rattle.sound_vacuum.specs.Sweeping.{AreDead, IsSweptTo, KeepsDead}

-- dead slots stay dead, and no entry comes in any index that leads to one
abbrev pub KeepsDeadSlots : HeapView → HeapView → Type 0
KeepsDeadSlots h h' = (n : ℕ) → KeepsDead (slots_of h) (slots_of h') (entries_in h.indexes n)
    (entries_in h'.indexes n)

-- what a session does, the visit of a page, or more memory alone
pub data StepsBetween (h h' : HeapView) : Type 0 where
  inserts : (own own' : Own) (row : Row) (x : ℕ) → WritesUnder h h' own → Inserts h h' own own' row x
      → StepsBetween h h'
  updates : (own own' : Own) (place : Tid) (row : Row) (horizon x : ℕ) → WritesUnder h h' own
      → Updates h h' own own' place row horizon x → StepsBetween h h'
  deletes : (own own' : Own) (place : Tid) (x : ℕ) → WritesUnder h h' own
      → Deletes h h' own own' place x → StepsBetween h h'
  fails_update : (own : Own) (place : Tid) (row : Row) (horizon : ℕ) (fault : WriteFault)
      → FailsUpdate h h' own place row horizon fault → StepsBetween h h'
  keeps : Keeps h h' → StepsBetween h h'
  finishes : (ids : List ℕ) (status : Status) → FinishesInTable h h' ids status → StepsBetween h h'
  prunes : (number horizon : ℕ) → Prunes h h' number horizon → StepsBetween h h'
  applies : (number horizon change : ℕ) (actions : List (ℕ × Action)) → Applies h h' number horizon change actions
      → StepsBetween h h'
  visits : (horizon cutoff p : ℕ) → VisitsAt h h' horizon cutoff p → StepsBetween h h'

-- None of them revives a dead slot, or lets an entry come that leads to one. (A new version takes a slot that was unused; so an entry that
-- a writer makes, or has made, never leads to a slot that waits to be freed.)
abbrev pub StepsKeepDeadSlots : Type 0
StepsKeepDeadSlots = (h h' : HeapView) → StepsBetween h h' → KeepsDeadSlots h h'

-- A piece of index i.

abbrev pub SweepingStaysSoundTable : Type 0
SweepingStaysSoundTable = (h h' : HeapView) (i : ℕ) (dead : List Tid) (from : Option Entry)
    (progress : Progress) → SoundTable h → AreDead (slots_of h) dead
    → SweepsAt h h' i dead from progress → StaysSoundTable h h'

abbrev pub SweepingIsUnseen : Type 0
SweepingIsUnseen = (h h' : HeapView) (i : ℕ) (dead : List Tid) (from : Option Entry)
    (progress : Progress) (s : Snap) (own : List ℕ) → SweepsAt h h' i dead from progress
    → FindsTheSame h h' s own

-- It keeps dead slots too, so what was swept of the other indexes stays so.
abbrev pub SweepingKeepsDeadSlots : Type 0
SweepingKeepsDeadSlots = (h h' : HeapView) (i : ℕ) (dead : List Tid) (from : Option Entry)
    (progress : Progress) → SweepsAt h h' i dead from progress → KeepsDeadSlots h h'

-- Once no entry of any index leads to a collected slot, none leads to those of a page.
abbrev pub SweptIsUnled : Type 0
SweptIsUnled = (h : HeapView) (dead : List Tid) (p : ℕ) (numbers : List ℕ)
    → ((n : ℕ) → IsInUse h.indexes n → IsSweptTo (entries_in h.indexes n) dead Done)
    → ((k : ℕ) → Contains numbers k → Contains dead (record { page = p; slot = k }))
    → AreUnled h p numbers

-- Collected slots elsewhere stay dead when those of a page are freed. The indexes are as they were.
abbrev pub FreeingLeavesOthers : Type 0
FreeingLeavesOthers = (h h' : HeapView) (p : ℕ) (numbers : List ℕ) → FreesAt h h' p numbers
    → ((q : Tid) → (q.page ≡ p → ¬ Contains numbers q.slot) → slot_in (slots_of h') q ≡ slot_in (slots_of h) q)
    × ((n : ℕ) → entries_at h'.indexes n ≡ entries_at h.indexes n)
