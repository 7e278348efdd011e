-- The value by which an index orders a row.
use Rattle.std.specs.Prelude.{ℕ, zero, suc, ℤ, pos, slice_index_or}
use Rattle.tuple_header.specs.declared.version.Row.{Row}

-- index 0 is the primary index, by the key, and index c + 1 that of column c
abbrev pub value_in : ℕ → Row → ℤ
value_in zero row = pos row.key
value_in (suc c) row = slice_index_or row.cols c (pos 0)
