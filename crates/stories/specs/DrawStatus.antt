-- The statuses that the program ends with.
use Rattle.std.specs.Prelude.{ℕ}
use Rattle.script.specs.Status.{exit_status_of}
use Rattle.stories.specs.declared.draw_fault.DrawFault.{DrawFault}
use Rattle.stories.specs.declared.draw_fault.DrawFault.TheVariants.{Script, TooManyPages, NoSuchPage}

abbrev pub draw_status_of : DrawFault → ℕ
draw_status_of (Script fault) = exit_status_of fault
draw_status_of TooManyPages = 1
draw_status_of (NoSuchPage p) = 1
