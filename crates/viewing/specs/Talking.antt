-- What was typed stands at the front of what was read.
use Rattle.std.specs.Prelude.{ℕ, ◌<◌, List, length}
use Rattle.viewing.specs.declared.talking.Typed.{Typed}
use Rattle.viewing.specs.declared.talking.Typed.TheVariants.{Line, Long, End}

-- a line that was typed is in what is pending, with its line feed
abbrev pub IsTyped : Typed → List ℕ → Type 0
IsTyped (Line n) pending = n < length pending
IsTyped Long pending = Unit {0}
IsTyped End pending = Unit {0}
