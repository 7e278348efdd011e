-- All indexes of a table are swept, one after another, and other steps come between.
use Rattle.std.specs.Prelude.{◌≡◌, ◌⊎◌, ◌<◌, ℕ, List, Option, Some, None, Contains}
use Rattle.xid_circle.specs.declared.Tid.{Tid}
use Rattle.index_entries.specs.declared.entry.Entry.{Entry}
use Rattle.index_entries.specs.Sets.{IsAfter}
use Rattle.table_indexes.specs.Indexes.{entries_in, IsInUse}
use Rattle.heap_write.specs.Heap.{HeapView, slots_of}
use Rattle.sound_vacuum.specs.Sweeping.{AreDead, IsSweptTo}
use Rattle.root_index.specs.declared.progress.Progress.TheVariants.{More, Done}
use Rattle.heap_write.specs.Cleaning.{SweepsAt}
use Rattle.sound_vacuum.specs.Between.{StepsBetween}

-- no entry leads to a collected slot that stands in an index before this one, or in this one where a piece that begins after `from` has
-- it behind
abbrev pub AreSwept : HeapView → List Tid → ℕ → Option Entry → Type 0
AreSwept h dead i from = (n : ℕ) (e : Entry) → IsInUse h.indexes n
    → Contains (entries_in h.indexes n) e → (n < i) ⊎ ((n ≡ i) × ¬ IsAfter from e) → ¬ Contains dead e.tid

-- nor any entry at all
abbrev pub AllAreSwept : HeapView → List Tid → Type 0
AllAreSwept h dead = (n : ℕ) → IsInUse h.indexes n → IsSweptTo (entries_in h.indexes n) dead Done

-- At the beginning nothing is behind.
abbrev pub NothingIsBehind : Type 0
NothingIsBehind = (h : HeapView) (dead : List Tid) → AreSwept h dead 0 None

-- after a piece that an entry follows
abbrev pub SweepingGoesOnInIndex : Type 0
SweepingGoesOnInIndex = (h h' : HeapView) (dead : List Tid) (i : ℕ) (from : Option Entry)
    (last : Entry) → AreDead (slots_of h) dead → IsInUse h.indexes i → AreSwept h dead i from
    → SweepsAt h h' i dead from (More last) → AreSwept h' dead i (Some last)

-- after the last piece of an index, where j is the next one in use
abbrev pub SweepingGoesToNext : Type 0
SweepingGoesToNext = (h h' : HeapView) (dead : List Tid) (i j : ℕ) (from : Option Entry)
    → AreDead (slots_of h) dead → AreSwept h dead i from → SweepsAt h h' i dead from Done
    → ((n : ℕ) → i < n → n < j → ¬ IsInUse h.indexes n) → AreSwept h' dead j None

-- after the last piece of the last index
abbrev pub SweepingEnds : Type 0
SweepingEnds = (h h' : HeapView) (dead : List Tid) (i : ℕ) (from : Option Entry)
    → AreDead (slots_of h) dead → AreSwept h dead i from → SweepsAt h h' i dead from Done
    → ((n : ℕ) → i < n → ¬ IsInUse h.indexes n) → AllAreSwept h' dead

-- Other steps.

abbrev pub StepsStaySwept : Type 0
StepsStaySwept = (h h' : HeapView) (dead : List Tid) (i : ℕ) (from : Option Entry)
    → StepsBetween h h' → AreDead (slots_of h) dead → AreSwept h dead i from
    → AreDead (slots_of h') dead × AreSwept h' dead i from

abbrev pub StepsStayAllSwept : Type 0
StepsStayAllSwept = (h h' : HeapView) (dead : List Tid) → StepsBetween h h'
    → AreDead (slots_of h) dead → AllAreSwept h dead
    → AreDead (slots_of h') dead × AllAreSwept h' dead
