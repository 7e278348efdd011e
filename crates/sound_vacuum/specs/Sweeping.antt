-- Entries to collected slots go piece by piece, and other steps come between. (An index always has exactly one entry for each root and
-- redirect. It has one or none for a dead slot: before a sweep comes to it, and after.)
use Rattle.std.specs.Prelude.{◌≡◌, ◌↔◌, ℕ, ℤ, List, Option, Some, None, Contains}
use Rattle.xid_circle.specs.declared.Tid.{Tid}
use Rattle.tuple_header.specs.declared.version.Row.{Row}
use Rattle.page_sheet.specs.declared.slot.Slot.{Slot}
use Rattle.page_sheet.specs.declared.slot.Slot.TheVariants.{Dead}
use Rattle.commit_status.specs.Window.{Window}
use Rattle.index_entries.specs.declared.entry.Entry.{Entry}
use Rattle.index_entries.specs.Order.{IsAscending}
use Rattle.index_entries.specs.Sets.{IsAfter}
use Rattle.index_lookup.specs.Pages.{slot_in}
use Rattle.sound_entries.specs.Entries.{EntriesAreSound, StaysSound}
use Rattle.root_index.specs.declared.progress.Progress.{Progress}
use Rattle.root_index.specs.declared.progress.Progress.TheVariants.{More, Done}
use Rattle.root_index.specs.Pieces.{IsUpTo, RemovesPiece}

-- these places are dead slots
abbrev pub AreDead : List (List Slot) → List Tid → Type 0
AreDead pages dead = (p : Tid) → Contains dead p → slot_in pages p ≡ Some Dead

-- The table stays sound when a piece of an index is gone through.
abbrev pub SweepingStaysSound : Type 0
SweepingStaysSound = (value_of : Row → ℤ) (since : Option ℕ) (w : Window) (pages : List (List Slot))
    (entries entries' : List Entry) (dead : List Tid) (from : Option Entry) (progress : Progress)
    → EntriesAreSound value_of since w pages entries → RemovesPiece entries entries' dead from progress
    → AreDead pages dead
    → StaysSound value_of since w pages pages entries entries'

-- Of the entries that the sweep has come to none leads to a dead place: those that a piece which begins after `from` has behind it.
abbrev pub IsSweptBefore : List Entry → List Tid → Option Entry → Type 0
IsSweptBefore entries dead from = (e : Entry) → Contains entries e → ¬ IsAfter from e
    → ¬ Contains dead e.tid

-- those up to the last one of a piece, or all of them where it came to the end
abbrev pub IsSweptTo : List Entry → List Tid → Progress → Type 0
IsSweptTo entries dead progress = (e : Entry) → Contains entries e → IsUpTo progress e
    → ¬ Contains dead e.tid

-- A piece goes on where the one before it ended, on the entries that are there by then.
abbrev pub SweepingGoesOn : Type 0
SweepingGoesOn = (entries entries' : List Entry) (dead : List Tid) (from : Option Entry)
    (progress : Progress) → IsSweptBefore entries dead from
    → RemovesPiece entries entries' dead from progress → IsSweptTo entries' dead progress

-- nothing is asked before the first piece, and where a piece ends the next one begins
abbrev pub SweepingBegins : Type 0
SweepingBegins = (entries : List Entry) (dead : List Tid) → IsSweptBefore entries dead None
    × ((last : Entry) → IsSweptTo entries dead (More last) → IsSweptBefore entries dead (Some last))

-- one piece after another, from `from` to the end
pub data RemovesPieces (dead : List Tid) : Option Entry → List Entry → List Entry → Type 0 where
  at_end : (from : Option Entry) (old new : List Entry) → RemovesPiece old new dead from Done
      → RemovesPieces dead from old new
  piece : (from : Option Entry) (last : Entry) (old between new : List Entry)
      → RemovesPiece old between dead from (More last)
      → RemovesPieces dead (Some last) between new → RemovesPieces dead from old new

-- the same entries but those that lead to one of these places
pub record RemovesEntries (old new : List Entry) (dead : List Tid) : Type 0 where
  pub ascending : IsAscending new
  pub members : (e : Entry) → Contains new e ↔ (Contains old e × ¬ Contains dead e.tid)

-- A whole index, gone through with nothing between: the entries that lead to these places are gone, and no others.
abbrev pub SweepingIsRemoving : Type 0
SweepingIsRemoving = (entries entries' : List Entry) (dead : List Tid)
    → RemovesPieces dead None entries entries' → RemovesEntries entries entries' dead

-- Steps between two pieces: dead slots stay dead, and an entry that comes leads to a slot that wasn't.
pub record KeepsDead (pages pages' : List (List Slot))
    (entries entries' : List Entry) : Type 0 where
  pub dead : (p : Tid) → slot_in pages p ≡ Some Dead → slot_in pages' p ≡ Some Dead
  pub fresh : (e : Entry) → Contains entries' e → ¬ Contains entries e
      → ¬ (slot_in pages e.tid ≡ Some Dead)

-- What was swept stays so.
abbrev pub SweptStaysSwept : Type 0
SweptStaysSwept = (pages pages' : List (List Slot)) (entries entries' : List Entry)
    (dead : List Tid) (from : Option Entry) → KeepsDead pages pages' entries entries'
    → AreDead pages dead → IsSweptBefore entries dead from
    → AreDead pages' dead × IsSweptBefore entries' dead from

-- so does what was swept up to the end
abbrev pub UnledStaysUnled : Type 0
UnledStaysUnled = (pages pages' : List (List Slot)) (entries entries' : List Entry)
    (dead : List Tid) → KeepsDead pages pages' entries entries'
    → AreDead pages dead → IsSweptTo entries dead Done
    → AreDead pages' dead × IsSweptTo entries' dead Done
