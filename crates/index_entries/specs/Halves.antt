-- A node that was split.
use Rattle.std.specs.Prelude.{ℕ, ◌+◌, List, length}
use Rattle.index_entries.specs.declared.entry.Entry.{Entry}
use Rattle.index_entries.specs.declared.node.Half.{Half}
use Rattle.index_entries.specs.declared.node.Half.TheVariants.{Lower, Upper}

-- where an entry may be put, in one half
abbrev pub IsHalf : {N S : Type 0} → (N → S → Type 0) → N → N → Half S → Type 0
IsHalf IsPosition lower upper (Lower position) = IsPosition lower position
IsHalf IsPosition lower upper (Upper position) = IsPosition upper position

-- the number of entries before the position, in both halves
abbrev pub rank_half : {N S : Type 0} → (N → List Entry) → (N → S → ℕ) → N → N → Half S → ℕ
rank_half entries rank lower upper (Lower position) = rank lower position
rank_half entries rank lower upper (Upper position) = length (entries lower) + rank upper position
