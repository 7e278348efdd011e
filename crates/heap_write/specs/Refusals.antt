-- Why a write is not done, of the first reason in the order of its tests, and what it leaves. It leaves all as it was, though
-- there may be more memory. Only an update that ends in NoRoom may leave the page of the old version pruned.
use Rattle.std.specs.Prelude.{◌⊎◌, ℕ, ◌<◌, ◌≤◌, List, length, Result, IfOk, IfErr, OnErr}
use Rattle.xid_circle.specs.declared.Tid.{Tid}
use Rattle.xid_circle.specs.declared.Xid.{Xid}
use Rattle.xid_circle.specs.Circle.{IsNormal}
use Rattle.commit_status.specs.Window.{IsWindow}
use Rattle.tuple_header.specs.declared.version.Row.{Row}
use Rattle.tuple_header.specs.Version.{rounded_size_of}
use Rattle.snapshot.specs.Own.{Own, unassigned_levels}
use Rattle.page_sheet.specs.Slots.{room_of, IsNormalAt}
use Rattle.heap_pages.specs.Choice.{IsPlaceFor}
use Rattle.heap_pages.specs.declared.pages.Placement.TheVariants.{NewPage}
use Rattle.table_indexes.specs.Indexes.{NeedsEntry}
use Rattle.prune.specs.Checks.{Checks}
use Rattle.prune_actions.specs.declared.Action.{Action}
use Rattle.heap_write.specs.declared.applying.ApplyFault.{ApplyFault}
use Rattle.heap_write.specs.declared.applying.ApplyFault.TheVariants as apply_fault
use Rattle.heap_write.specs.declared.pruning.PruneFault.{PruneFault}
use Rattle.heap_write.specs.declared.pruning.PruneFault.TheVariants as prune_fault
use Rattle.heap_write.specs.declared.heap.WriteFault.{WriteFault}
use Rattle.heap_write.specs.declared.heap.WriteFault.TheVariants as fault
use Rattle.heap_write.specs.Heap.{HeapView, page_on, Keeps}
use Rattle.heap_write.specs.Writes.{TableIsFull, PrunesIfFull, KeepsValues, Updates}
use Rattle.write_ids.specs.Ids.{NeedsFreeze, SameOwn}

-- the new ids take memory: the table of ids has to grow for them, or the session's own list
abbrev pub NeedsIds : HeapView → Own → Type 0
NeedsIds h own = (h.statuses.spare < unassigned_levels own.ids own.saved) ⊎ (own.spare < unassigned_levels own.ids own.saved)

-- something has to grow for a new root of the row: the ids, the list of pages, or an index
pub data RootNeedsMemory (h : HeapView) (own : Own) (row : Row) : Type 0 where
  for_ids : NeedsIds h own → RootNeedsMemory h own row
  for_page : IsPlaceFor h.pages.pages h.max_pages (rounded_size_of row) NewPage → RootNeedsMemory h own row
  for_entry : NeedsEntry h.indexes row → RootNeedsMemory h own row

abbrev pub LacksForInsert : HeapView → Own → Row → WriteFault → Type 0
LacksForInsert h own row fault.NeedsFreeze = NeedsFreeze h.statuses own
LacksForInsert h own row fault.NoRoom = (¬ NeedsFreeze h.statuses own) × TableIsFull h (rounded_size_of row)
LacksForInsert h own row fault.NoMemory = (¬ NeedsFreeze h.statuses own) × (¬ TableIsFull h (rounded_size_of row)) × RootNeedsMemory h own row

-- a version is at the place
abbrev pub VersionIsThere : HeapView → Tid → Type 0
VersionIsThere h place = IsNormalAt (page_on h place.page).slots place.slot

-- Something has to grow for an update: the ids, or an index, or whatever a new root takes. An index counts only where the row has
-- room on its page, once that is pruned if it is full, and a value in an index changes. What a new root takes counts only where
-- the row has no room there.
pub data UpdateNeedsMemory (h : HeapView) (own : Own) (place : Tid) (row : Row) (horizon : ℕ) : Type 0 where
  for_ids : NeedsIds h own → UpdateNeedsMemory h own place row horizon
  for_entry : (ready : HeapView) → PrunesIfFull h ready place horizon (rounded_size_of row)
      → rounded_size_of row ≤ room_of (page_on ready place.page).slots → ¬ KeepsValues h place row → NeedsEntry h.indexes row
      → UpdateNeedsMemory h own place row horizon
  for_root : (ready : HeapView) → PrunesIfFull h ready place horizon (rounded_size_of row)
      → room_of (page_on ready place.page).slots < rounded_size_of row → RootNeedsMemory h own row
      → UpdateNeedsMemory h own place row horizon

-- the page of the old version was made ready, the version is still there, and no page has room for the new one
pub record FindsNoRoom (h h' : HeapView) (own : Own) (place : Tid) (horizon size : ℕ) : Type 0 where
  pub free : ¬ NeedsFreeze h.statuses own
  pub ready : HeapView
  pub readies : PrunesIfFull h ready place horizon size
  pub there : VersionIsThere ready place
  pub full : TableIsFull ready size
  pub keeps : Keeps ready h'

abbrev pub FailsUpdate : HeapView → HeapView → Own → Tid → Row → ℕ → WriteFault → Type 0
FailsUpdate h h' own place row horizon fault.NeedsFreeze = NeedsFreeze h.statuses own × Keeps h h'
FailsUpdate h h' own place row horizon fault.NoRoom = FindsNoRoom h h' own place horizon (rounded_size_of row)
FailsUpdate h h' own place row horizon fault.NoMemory = (¬ NeedsFreeze h.statuses own) × UpdateNeedsMemory h own place row horizon × Keeps h h'

-- what an update answers, and what it did
pub record AnswersUpdate (h h' : HeapView) (own own' : Own) (place : Tid) (row : Row) (horizon : ℕ) (answer : Result Xid WriteFault) : Type 0 where
  pub ok : IfOk answer (λ x. Updates h h' own own' place row horizon x.0 × IsNormal x.0)
  pub fault : IfErr answer (λ fault. FailsUpdate h h' own place row horizon fault)
  pub same_own : OnErr answer (SameOwn own own')
  pub window : IsWindow h'.statuses

abbrev pub FailsDelete : HeapView → HeapView → Own → WriteFault → Type 0
FailsDelete h h' own fault.NeedsFreeze = NeedsFreeze h.statuses own × Keeps h h'
FailsDelete h h' own fault.NoRoom = ⊥
FailsDelete h h' own fault.NoMemory = (¬ NeedsFreeze h.statuses own) × NeedsIds h own × Keeps h h'

-- why a page is not pruned: it is not in use
abbrev pub Unpruned : HeapView → ℕ → PruneFault → Type 0
Unpruned h number prune_fault.NoSuchPage = length h.pages.pages ≤ number

-- why a plan is not applied to a page: it is not in use, or else the plan does not check at the horizon
abbrev pub Unapplied : HeapView → (number horizon change : ℕ) → List (ℕ × Action) → ApplyFault → Type 0
Unapplied h number horizon change actions apply_fault.NoSuchPage = length h.pages.pages ≤ number
Unapplied h number horizon change actions apply_fault.Stale = (number < length h.pages.pages) × ¬ Checks h.statuses horizon (page_on h number) change actions
