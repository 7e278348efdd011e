-- Why there is no picture of pages.
use Rattle.std.specs.Prelude.{ℕ, ◌<◌, List, length}
use Rattle.session_steps.specs.State.{State}
use Rattle.shapes.specs.declared.fault.PictureFault.{PictureFault}
use Rattle.shapes.specs.declared.fault.PictureFault.TheVariants as fault
use Rattle.shapes.specs.declared.fault.TheConstants.{MOST_PAGES}
use Rattle.shapes.specs.Shapes.{IsFirstNotInUse}
use Rattle.script.specs.declared.fault.ShellFault.TheVariants.{NoMemory}
use Rattle.stories.specs.declared.draw_fault.DrawFault.{DrawFault}
use Rattle.stories.specs.declared.draw_fault.DrawFault.TheVariants.{Script, TooManyPages, NoSuchPage}

-- the fault of a drawing for one of a picture
abbrev pub fault_in_drawing : PictureFault → DrawFault
fault_in_drawing fault.TooManyPages = TooManyPages
fault_in_drawing (fault.NoSuchPage p) = NoSuchPage p
fault_in_drawing fault.NoMemory = Script NoMemory

-- more pages than are shown, or one that is not in use; or memory was refused
abbrev pub IsDrawFault : State → (pages : List ℕ) → DrawFault → Type 0
IsDrawFault st pages TooManyPages = MOST_PAGES < length pages
IsDrawFault st pages (NoSuchPage p) = IsFirstNotInUse st pages p
IsDrawFault st pages (Script NoMemory) = Unit {0}
IsDrawFault st pages fault = ⊥
