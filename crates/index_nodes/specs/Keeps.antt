-- What a branch keeps.
use Rattle.std.specs.Prelude.{◌≤◌, ℕ}
use Rattle.index_entries.specs.declared.node.TheConstants.{MOST_PARTS}

-- so many parts, in a list with room for so many
pub record IsBranch (parts room : ℕ) : Type 0 where
  pub few : parts ≤ MOST_PARTS
  pub reserved : MOST_PARTS ≤ room
