-- Which entries fit where they are kept in few bytes.
use Rattle.std.specs.Prelude.{◌≡◌, ◌<◌, ◌^◌, ℤ, pos, Bool, true, false, FitsSigned}
use Rattle.std.specs.Int.{w32, w64}
use Rattle.xid_circle.specs.Numbers.{Key}
use Rattle.index_entries.specs.declared.entry.Entry.{Entry}
use Rattle.entry_columns.specs.declared.short_tid.TheConstants.{PAGES}

-- a value in an index by key is the key itself, and one in an index by a column is that of the column. In a narrow one value and key have
-- 32 bits.
abbrev pub FitsLabel : (is_by_key is_narrow : Bool) → ℤ → Key → Type 0
FitsLabel true is_narrow value key = value ≡ pos key
FitsLabel false false value key = FitsSigned w64 value
FitsLabel false true value key = FitsSigned w32 value × (key < 2 ^ 32)

-- the entry is one of such an index, and leads to one of the pages that are told apart
abbrev pub Fits : (is_by_key is_narrow : Bool) → Entry → Type 0
Fits is_by_key is_narrow entry = FitsLabel is_by_key is_narrow entry.value entry.key × (entry.tid.page < PAGES)
