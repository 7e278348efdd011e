-- What who writes finds of each key, where it found one row of the key at most.
use Rattle.std.specs.Prelude.{◌≡◌, ◌≢◌, ◌↔◌, ℕ}
use Rattle.xid_circle.specs.declared.Tid.{Tid}
use Rattle.tuple_header.specs.Version.{Version}
use Rattle.tuple_header.specs.declared.version.Row.{Row}
use Rattle.snapshot.specs.Snap.{Snap}
use Rattle.snapshot.specs.Own.{Own}
use Rattle.heap_write.specs.Heap.{HeapView}
use Rattle.heap_write.specs.Writes.{Inserts, Updates, Deletes}
use Rattle.table_integrity.specs.Table.{SoundTable, MayDelete}
use Rattle.table_integrity.specs.Laws.{WritesUnder}
use Rattle.table_integrity.specs.Readers.{FindsRowAt, IsAuthor}

-- no row of the key is found
abbrev pub FindsNone : (Tid → Row → Type 0) → ℕ → Type 0
FindsNone finds key = (p : Tid) (r : Row) → r.key ≡ key → ¬ finds p r

-- none but at this place
abbrev pub FindsNoneElsewhere : (Tid → Row → Type 0) → ℕ → Tid → Type 0
FindsNoneElsewhere finds key place = (p : Tid) (r : Row) → r.key ≡ key → finds p r → p ≡ place

-- this row of its key is found at the place, and no other anywhere
abbrev pub FindsOnly : (Tid → Row → Type 0) → Tid → Row → Type 0
FindsOnly finds place row = (p : Tid) (r : Row) → r.key ≡ row.key → finds p r ↔ ((p ≡ place) × (r ≡ row))

-- of all other keys the same is found
abbrev pub SameOfOthers : (Tid → Row → Type 0) → (Tid → Row → Type 0) → ℕ → Type 0
SameOfOthers before after key = (p : Tid) (r : Row) → r.key ≢ key → before p r ↔ after p r

-- the row is the only one of its key, somewhere, and the rest is as before
pub record PutsRowOfKey (before after : Tid → Row → Type 0) (row : Row) : Type 0 where
  pub place : Tid
  pub only : FindsOnly after place row
  pub others : SameOfOthers before after row.key

abbrev pub InsertPutsRow : Type 0
InsertPutsRow = (h h' : HeapView) (horizon : ℕ) (own own' : Own) (row : Row) (x : ℕ) (s : Snap) → SoundTable h → WritesUnder h h' own
    → Inserts h h' own own' row x → IsAuthor h horizon s own.ids → FindsNone (FindsRowAt h s own.ids) row.key → PutsRowOfKey (FindsRowAt h s own.ids) (FindsRowAt h' s own'.ids) row

abbrev pub UpdatePutsRow : Type 0
UpdatePutsRow = (h h' : HeapView) (horizon : ℕ) (own own' : Own) (place : Tid) (t : Version) (row : Row) (x : ℕ) (s : Snap) → SoundTable h → WritesUnder h h' own
    → MayDelete h place t → row.key ≡ t.row.key → Updates h h' own own' place row horizon x → IsAuthor h horizon s own.ids
    → FindsNoneElsewhere (FindsRowAt h s own.ids) row.key place → PutsRowOfKey (FindsRowAt h s own.ids) (FindsRowAt h' s own'.ids) row

abbrev pub DeleteTakesRow : Type 0
DeleteTakesRow = (h h' : HeapView) (horizon : ℕ) (own own' : Own) (place : Tid) (t : Version) (x : ℕ) (s : Snap) → SoundTable h → WritesUnder h h' own
    → MayDelete h place t → Deletes h h' own own' place x → IsAuthor h horizon s own.ids → FindsNoneElsewhere (FindsRowAt h s own.ids) t.row.key place
    → FindsNone (FindsRowAt h' s own'.ids) t.row.key × SameOfOthers (FindsRowAt h s own.ids) (FindsRowAt h' s own'.ids) t.row.key
