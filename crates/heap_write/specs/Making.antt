-- An index made in use: it has the entries of the current rows, and is exact from the next id on. (The manual's CREATE INDEX; README.HOT
-- on broken chains, and indcheckxmin.)
use Rattle.std.specs.Prelude.{◌≡◌, ◌≢◌, ℕ, suc, List, Some}
use Rattle.commit_status.specs.Window.{next_id}
use Rattle.index_entries.specs.declared.entry.Entry.{Entry}
use Rattle.table_indexes.specs.Indexes.{entries_at, since_at}
use Rattle.index_making.specs.Making.{ListsCurrent}
use Rattle.heap_write.specs.Heap.{HeapView, slots_of}

-- the index by a column is made, and all else is as it was
pub record MakesIndex (h h' : HeapView) (column : ℕ) : Type 0 where
  pub entries : List Entry
  pub made : entries_at h'.indexes (suc column) ≡ Some entries
  pub lists : ListsCurrent h.statuses (slots_of h) (suc column) entries
  pub since : since_at h'.indexes (suc column) ≡ Some (next_id h.statuses)
  pub others : (n : ℕ) → n ≢ suc column → entries_at h'.indexes n ≡ entries_at h.indexes n
  pub others_since : (n : ℕ) → n ≢ suc column → since_at h'.indexes n ≡ since_at h.indexes n
  pub is : h' ≡ record h { indexes = h'.indexes }
