-- A narrow index, and the one to which its entries can move.
use Rattle.std.specs.Prelude.{◌≡◌, ◌<◌, ◌+◌, [], length, true, false, Contains}
use Rattle.index_entries.specs.declared.entry.Entry.{Entry}
use Rattle.entry_columns.specs.Fits.{Fits}
use Rattle.root_index.specs.View.{IndexView}

-- it is one by a column that takes any values and keys
abbrev pub IsForAll : IndexView → Type 0
IsForAll index = (index.is_by_key ≡ false) × (index.is_narrow ≡ false)

-- the other has no entries, and takes any: nodes are set aside in it where the narrow one has entries, or nodes set aside
pub record IsReadyToWiden (narrow wide : IndexView) : Type 0 where
  pub by_column : narrow.is_by_key ≡ false
  pub is_narrow : narrow.is_narrow ≡ true
  pub fit : (e : Entry) → Contains narrow.entries e → Fits false false e
  pub none : wide.entries ≡ []
  pub for_all : IsForAll wide
  pub ready : 0 < length narrow.entries + narrow.spare → 0 < wide.spare
