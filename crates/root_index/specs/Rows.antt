-- The entries of rows.
use Rattle.std.specs.Prelude.{ℕ, ℤ}
use Rattle.tuple_header.specs.declared.version.Row.{Row}
use Rattle.index_entries.specs.declared.entry.Entry.{Entry}

-- the entry of a row's version at a place
abbrev pub entry_for : (Row → ℤ) → Row → ℕ → ℕ → Entry
entry_for value_of row page slot = record { value = value_of row; key = row.key; tid = record { page = page; slot = slot } }
