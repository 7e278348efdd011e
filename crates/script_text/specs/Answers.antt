-- What is written for a line, its line feed left out.
use Rattle.std.specs.Prelude.{ℕ, zero, suc, List, [], ◌∷◌, ◌++◌, codes, length, Option, Some, None}
use Rattle.std.specs.List.{flat_map}
use Rattle.std.specs.Fmt.{decimal, signed_decimal}
use Rattle.xid_circle.specs.Numbers.{PageNo, Count}
use Rattle.tuple_header.specs.declared.version.Row.{Row}
use Rattle.page_sheet.specs.declared.slot.Slot.{Slot}
use Rattle.page_sheet.specs.declared.slot.Slot.TheVariants.{Unused, Normal, Redirect, Dead}
use Rattle.page_sheet.specs.Slots.{slot_at}
use Rattle.calls.specs.declared.reply.Refusal.{Refusal}
use Rattle.calls.specs.declared.reply.Refusal.TheVariants as refusal
use Rattle.calls.specs.declared.reply.Reply.{Reply}
use Rattle.calls.specs.declared.reply.Reply.TheVariants as reply
use Rattle.calls.specs.declared.vacuum.Piece.{Piece}
use Rattle.calls.specs.declared.vacuum.Piece.TheVariants as piece
use Rattle.index_entries.specs.declared.entry.Entry.{Entry}
use Rattle.script_text.specs.Grammar.{spaced, row_text}

-- the number and the name of a refusal
abbrev pub refusal_text : Refusal → List ℕ
refusal_text refusal.NotOpen = codes "1 NotOpen"
refusal_text refusal.AlreadyOpen = codes "2 AlreadyOpen"
refusal_text refusal.Failed = codes "3 Failed"
refusal_text refusal.AlreadyThere = codes "4 AlreadyThere"
refusal_text refusal.NotThere = codes "5 NotThere"
refusal_text refusal.Conflict = codes "6 Conflict"
refusal_text (refusal.Busy s) = codes "7 Busy" ++ spaced (decimal s)
refusal_text refusal.Deadlock = codes "8 Deadlock"
refusal_text refusal.CursorOpen = codes "9 CursorOpen"
refusal_text refusal.NoCursor = codes "10 NoCursor"
refusal_text refusal.TooDeep = codes "11 TooDeep"
refusal_text refusal.NoSavepoint = codes "12 NoSavepoint"
refusal_text refusal.TooLarge = codes "13 TooLarge"
refusal_text refusal.NoRoom = codes "14 NoRoom"
refusal_text refusal.NeedsFreeze = codes "15 NeedsFreeze"
refusal_text refusal.NoMemory = codes "16 NoMemory"
refusal_text refusal.VacuumRunning = codes "17 VacuumRunning"
refusal_text refusal.NoVacuum = codes "18 NoVacuum"
refusal_text refusal.NoSuchPage = codes "19 NoSuchPage"
refusal_text refusal.NoSuchIndex = codes "20 NoSuchIndex"
refusal_text refusal.Stale = codes "21 Stale"
refusal_text refusal.IndexTooNew = codes "22 IndexTooNew"
refusal_text refusal.NoSuchSession = codes "23 NoSuchSession"
refusal_text refusal.BadBounds = codes "24 BadBounds"
refusal_text refusal.IndexBusy = codes "25 IndexBusy"

-- words, and a number behind them
unfoldable pub labelled : List ℕ → ℕ → List ℕ
labelled words n = words ++ spaced (decimal n)

-- a row's line
abbrev pub found_text : Row → List ℕ
found_text row = codes "row" ++ spaced (row_text row.key row.cols row.body.items)

-- the lines of rows, in their order, each behind a line feed
abbrev pub row_lines : List Row → List ℕ
row_lines rows = flat_map (λ row. 10 ∷ found_text row) rows

-- a key's line
abbrev pub key_text : ℕ → List ℕ
key_text key = labelled (codes "key") key

-- the lines of keys, in their order, each behind a line feed
abbrev pub key_lines : List ℕ → List ℕ
key_lines keys = flat_map (λ key. 10 ∷ key_text key) keys

-- what a step of a vacuum did: the page that it visited, the index that it went through a piece of,
-- or the page whose collected slots it freed
abbrev pub piece_text : Piece → List ℕ
piece_text (piece.Heap p) = labelled (codes "heap") p
piece_text (piece.Index i) = labelled (codes "index") i
piece_text (piece.Free p) = labelled (codes "free") p

-- what is written for a reply
abbrev pub reply_text : Reply → List ℕ
reply_text reply.Done = codes "ok"
reply_text (reply.Found None) = codes "none"
reply_text (reply.Found (Some row)) = found_text row
reply_text reply.Committed = codes "committed"
reply_text reply.RolledBack = codes "rolled back"
reply_text (reply.Rows rows) = labelled (codes "rows") (length rows.items) ++ row_lines rows.items
reply_text (reply.Keys keys) = labelled (codes "keys") (length keys.items) ++ key_lines keys.items
reply_text reply.End = codes "end"
reply_text (reply.Worked piece) = piece_text piece
reply_text (reply.Ended first) = labelled (codes "ended") first
reply_text (reply.Refused r) = codes "error" ++ spaced (refusal_text r)

-- the next id, and that below which all are frozen
abbrev pub ids_text : ℕ → ℕ → List ℕ
ids_text next frozen_below = labelled (codes "next") next ++ labelled (codes " frozen_below") frozen_below

-- a slot behind its number, with raw ids
abbrev pub slot_text : Slot → List ℕ
slot_text Unused = codes " unused"
slot_text Dead = codes " dead"
slot_text (Redirect target) = codes " redirect" ++ spaced (decimal target)
slot_text (Normal version) = codes " normal" ++ (spaced (decimal version.header.xmin.0) ++ (spaced (decimal version.header.xmax.0) ++ spaced (decimal version.row.key)))

-- a slot's line, behind a line feed
abbrev pub slot_line_text : ℕ → Option Slot → List ℕ
slot_line_text number None = []
slot_line_text number (Some slot) = 10 ∷ (decimal number ++ slot_text slot)

-- the lines of the slots up to a number
abbrev pub slot_lines : ℕ → List Slot → List ℕ
slot_lines zero slots = []
slot_lines (suc n) slots = slot_lines n slots ++ slot_line_text (suc n) (slot_at slots (suc n))

-- a page's own line
abbrev pub page_head_text : PageNo → (change visible count : Count) → List ℕ
page_head_text number change visible count =
    labelled (codes "page") number ++ (labelled (codes " change") change ++ (labelled (codes " visible") visible ++ labelled (codes " slots") count))

-- a page's line, and those of its slots
abbrev pub page_text : ℕ → ℕ → ℕ → List Slot → List ℕ
page_text number change visible slots = page_head_text number change visible (length slots) ++ slot_lines (length slots) slots

abbrev pub no_page_text : List ℕ
no_page_text = codes "error 19 NoSuchPage"

-- a page as it is shown: its change number, 1 for all-visible or 2 for all-frozen too, and its slots
pub record Shown : Type 0 where
  pub change : ℕ
  pub visible : ℕ
  pub slots : List Slot

abbrev pub shown_text : ℕ → Option Shown → List ℕ
shown_text number None = no_page_text
shown_text number (Some shown) = page_text number shown.change shown.visible shown.slots

-- an entry of an index: its value, its key, and the page and the slot that it leads to
abbrev pub entry_text : Entry → List ℕ
entry_text e = codes "entry" ++ (spaced (signed_decimal e.value) ++ (spaced (decimal e.key) ++ (spaced (decimal e.tid.page) ++ spaced (decimal e.tid.slot))))

-- the lines of entries, in their order, each behind a line feed
abbrev pub entry_lines : List Entry → List ℕ
entry_lines entries = flat_map (λ e. 10 ∷ entry_text e) entries

-- an index's own line, with the number of its entries
abbrev pub index_head_text : ℕ → ℕ → List ℕ
index_head_text number count = labelled (codes "entries") number ++ spaced (decimal count)

abbrev pub no_index_text : List ℕ
no_index_text = codes "error 20 NoSuchIndex"

-- an index's line, and those of its entries, where there is such an index
abbrev pub index_text : ℕ → Option (List Entry) → List ℕ
index_text number None = no_index_text
index_text number (Some entries) = index_head_text number (length entries) ++ entry_lines entries
