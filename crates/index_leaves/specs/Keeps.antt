-- What a leaf keeps.
use Rattle.std.specs.Prelude.{List}
use Rattle.entry_columns.specs.declared.gap.Gap.{Gap}
use Rattle.entry_columns.specs.Gaps.{AreOutside}
use Rattle.index_entries.specs.declared.entry.Entry.{Entry}
use Rattle.index_entries.specs.Lists.{IsFirst, IsLast}

-- of these entries those that it has apart are the first and the last, and none leads to a place of the gap
pub record IsLeaf (first last : Entry) (entries : List Entry) (gap : Gap) : Type 0 where
  pub apart : IsFirst first entries
  pub last_apart : IsLast last entries
  pub outside : AreOutside gap entries
