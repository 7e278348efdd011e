-- What a write changes, and why it is not done. It is said of the engine's own ids and pages.
use Rattle.std.specs.Prelude.{Result, Ok, Err}
use Rattle.xid_circle.specs.Numbers.{Id}
use Rattle.xid_circle.specs.declared.Tid.{Tid}
use Rattle.xid_circle.specs.declared.Xid.{Xid}
use Rattle.tuple_header.specs.declared.version.Row.{Row}
use Rattle.snapshot.specs.Own.{Own}
use Rattle.heap_write.specs.Heap.{HeapView, Keeps}
use Rattle.heap_write.specs.Writes.{Inserts, Updates, Deletes}
use Rattle.write_ids.specs.Ids.{SameOwn}
use Rattle.heap_write.specs.Refusals.{LacksForInsert, FailsUpdate, FailsDelete}
use Rattle.heap_write.specs.declared.heap.WriteFault.{WriteFault}
use Rattle.heap_write.specs.declared.heap.WriteFault.TheVariants as fault
use Rattle.calls.specs.Words.{RowToWrite, row_of}
use Rattle.calls.specs.Writes.{WriteStep, inserts, updates, deletes}
use Rattle.calls.specs.declared.reply.Reply.{Reply}
use Rattle.calls.specs.declared.reply.Reply.TheVariants as reply
use Rattle.calls.specs.declared.reply.Refusal.{Refusal}
use Rattle.calls.specs.declared.reply.Refusal.TheVariants as refusal

-- What a write does to the heap and to the session's own ids, the newest of which is x then. An update or a deletion is of the version at
-- this place; an insert is of none.
abbrev pub DoesWrite : WriteStep → (place : Tid) → (horizon : Id) → HeapView → HeapView → Own → Own → (x : Id) → Type 0
DoesWrite (inserts row) place horizon h h' own own' x = Inserts h h' own own' (row_of row) x
DoesWrite (updates row) place horizon h h' own own' x = Updates h h' own own' place (row_of row) horizon x
DoesWrite (deletes key) place horizon h h' own own' x = Deletes h h' own own' place x

-- or why it is not done, of the first reason in the order of the tests, and what that leaves; a deletion asks for no room
abbrev pub FailsWrite : WriteStep → (place : Tid) → (horizon : Id) → HeapView → HeapView → Own → WriteFault → Type 0
FailsWrite (inserts row) place horizon h h' own f = LacksForInsert h own (row_of row) f × Keeps h h'
FailsWrite (updates row) place horizon h h' own f = FailsUpdate h h' own place (row_of row) horizon f
FailsWrite (deletes key) place horizon h h' own f = FailsDelete h h' own f

-- the one or the other, where the ids stay, though there may be more memory
abbrev pub TriesWrite : WriteStep → (place : Tid) → (horizon : Id) → HeapView → HeapView → Own → Own → Result (Unit {0}) WriteFault → Type 0
TriesWrite write place horizon h h' own own' (Ok u) = (x : Id) × DoesWrite write place horizon h h' own own' x
TriesWrite write place horizon h h' own own' (Err f) = SameOwn own own' × FailsWrite write place horizon h h' own f

-- a row of the table in the words of a step that asks for it to be written
abbrev pub worded : Row → RowToWrite
worded row = record { key = row.key; cols = row.cols; body = row.body.items }

-- what became of a write, whatever its id
abbrev pub outcome_of : Result Xid WriteFault → Result (Unit {0}) WriteFault
outcome_of (Ok x) = Ok tt
outcome_of (Err f) = Err f

-- The reply.

abbrev pub refusal_for : WriteFault → Refusal
refusal_for fault.NeedsFreeze = refusal.NeedsFreeze
refusal_for fault.NoRoom = refusal.NoRoom
refusal_for fault.NoMemory = refusal.NoMemory

abbrev pub reply_for : Result (Unit {0}) WriteFault → Reply
reply_for (Ok u) = reply.Done
reply_for (Err f) = reply.Refused (refusal_for f)
