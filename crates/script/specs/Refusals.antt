-- What the outside refused.
use Rattle.std.specs.Prelude.{◌≡◌, ◌+◌, ◌≤◌, ℕ, ◌⊎◌, Bool, true}
use Rattle.script.specs.declared.fault.ShellFault.{ShellFault}
use Rattle.script.specs.declared.fault.ShellFault.TheVariants.{BadLine, BadPage, Input, Output, NoMemory, TooManyLines}

-- What is known of a log. That is whether the last read and the last write were refused, and how many calls in a row, up to
-- the last, were interrupted. It is also whether a growth was refused.
pub record Refusals : Type 0 where
  pub input : Bool
  pub output : Bool
  pub interrupted : ℕ
  pub memory : Bool

-- one more call was interrupted
abbrev pub IsOneMore : Refusals → Refusals → Type 0
IsOneMore old new = new.interrupted ≡ old.interrupted + 1

-- an interrupted call is made again, 2^64 - 1 times in a row
abbrev pub IsWornOut : Refusals → Type 0
IsWornOut refusals = 18446744073709551615 ≤ refusals.interrupted

-- which refusal a fault of the shell tells of: a line that isn't allowed, a bad page, and that numbers run out, are none
abbrev pub IsRefused : ShellFault → Refusals → Type 0
IsRefused (BadLine n) refusals = ⊥
IsRefused (BadPage fault) refusals = ⊥
IsRefused Input refusals = (refusals.input ≡ true) ⊎ IsWornOut refusals
IsRefused Output refusals = (refusals.output ≡ true) ⊎ IsWornOut refusals
IsRefused NoMemory refusals = refusals.memory ≡ true
IsRefused TooManyLines refusals = ⊥

-- what ends a script: a line that isn't allowed, numbers that run out, or a refusal
abbrev pub IsCaused : ShellFault → Refusals → Type 0
IsCaused (BadLine n) refusals = Unit {0}
IsCaused TooManyLines refusals = Unit {0}
IsCaused fault refusals = IsRefused fault refusals

-- what keeps a page from being shown: that it is bad, or a refusal
abbrev pub IsPageCaused : ShellFault → Refusals → Type 0
IsPageCaused (BadPage fault) refusals = Unit {0}
IsPageCaused fault refusals = IsRefused fault refusals
