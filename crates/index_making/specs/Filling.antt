-- What is said of lists of entries, whatever their order.
use Rattle.std.specs.Prelude.{◌≡◌, ◌↔◌, ◌⊎◌, false, List, Contains}
use Rattle.std.specs.List.{All}
use Rattle.index_entries.specs.declared.entry.Entry.{Entry}
use Rattle.entry_columns.specs.Fits.{Fits}

-- the same entries and this one
abbrev pub Joins : (old new : List Entry) → Entry → Type 0
Joins old new e = (x : Entry) → Contains new x ↔ (Contains old x ⊎ (x ≡ e))

-- the entries of two lists
abbrev pub HasBoth : (one two both : List Entry) → Type 0
HasBoth one two both = (x : Entry) → Contains both x ↔ (Contains one x ⊎ Contains two x)

-- the same entries
abbrev pub HaveSame : (old new : List Entry) → Type 0
HaveSame old new = (x : Entry) → Contains new x ↔ Contains old x

-- there is an entry
abbrev pub HoldsEntry : List Entry → Type 0
HoldsEntry entries = (x : Entry) × Contains entries x

-- all fit an index by a column
abbrev pub AllFitColumn : List Entry → Type 0
AllFitColumn entries = All (Fits false false) entries
