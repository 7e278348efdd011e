-- The statuses that the program ends with.
use Rattle.std.specs.Prelude.{ℕ}
use Rattle.script.specs.declared.fault.ShellFault.{ShellFault}
use Rattle.script.specs.declared.fault.ShellFault.TheVariants.{BadLine, BadPage, Input, Output, NoMemory, TooManyLines}

abbrev pub exit_status_of : ShellFault → ℕ
exit_status_of (BadLine n) = 1
exit_status_of (BadPage fault) = 1
exit_status_of Input = 2
exit_status_of Output = 2
exit_status_of NoMemory = 3
exit_status_of TooManyLines = 3
