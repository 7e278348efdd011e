-- What a picture says of its input and of what was written.
use Rattle.std.specs.Prelude.{◌≡◌, ℕ, ◌+◌, ◌≤◌, ◌⊎◌, List, [], ◌++◌, length, Option, Ok, Err, Result}
use Rattle.std.specs.List.{AllByRecursion}
use Rattle.std.specs.Io.KnownBytes.{Appends}
use Rattle.calls.specs.declared.settings.Settings.{Settings}
use Rattle.script.specs.Engine.{WaitingView}
use Rattle.script.specs.Refusals.{Refusals, IsRefused}
use Rattle.script.specs.Script.{IsBadHeading, WritesBeginning}
use Rattle.script.specs.declared.fault.ShellFault.{ShellFault}
use Rattle.script.specs.declared.fault.ShellFault.TheVariants.{BadLine, BadPage, Input, Output, TooManyLines}
use Rattle.viewing.specs.Viewing.{ViewEvent, IsViewAllowed, ViewsLead, IsViewRun, view_lines, view_script, IsBadView}
use Rattle.stories.specs.declared.draw_fault.DrawFault.{DrawFault}
use Rattle.stories.specs.declared.draw_fault.DrawFault.TheVariants.{Script}
use Rattle.shapes.specs.Pictures.{pages_asked, IsPictureText}
use Rattle.stories.specs.Faults.{IsDrawFault}

-- Behind the first line.

-- lines at the front of the input, and where they lead the table
pub record LinesRead (from : WaitingView) (input : List ℕ) : Type 0 where
  pub events : List ViewEvent
  pub allowed : AllByRecursion IsViewAllowed events
  pub last : WaitingView
  pub leads : ViewsLead from events last
  pub rest : List ℕ
  pub all : input ≡ view_lines events ++ rest

-- the next line is bad
abbrev pub IsBadNext : WaitingView → List ℕ → ℕ → Type 0
IsBadNext from input n = (read : LinesRead from input) × IsBadView read.rest × (n ≡ length read.events + 2)

-- so many lines were read, or all that there are
abbrev pub StopsAt : ℕ → ℕ → (rest : List ℕ) → Type 0
StopsAt most lines rest = (lines ≡ most) ⊎ ((lines ≤ most) × (rest ≡ []))

-- the reader or the writer gave up, or memory was refused
abbrev pub IsFromOutside : ShellFault → Type 0
IsFromOutside (BadLine n) = ⊥
IsFromOutside (BadPage fault) = ⊥
IsFromOutside TooManyLines = ⊥
IsFromOutside fault = Unit {0}

-- so many lines, at most, lead the table on
abbrev pub RunsTo : WaitingView → WaitingView → (most : ℕ) → List ℕ → Result (Unit {0}) DrawFault → Type 0
RunsTo from to most input (Ok u) = (read : LinesRead from input) × (read.last ≡ to) × StopsAt most (length read.events) read.rest
RunsTo from to most input (Err (Script (BadLine n))) = IsBadNext from input n
RunsTo from to most input (Err (Script fault)) = IsFromOutside fault
RunsTo from to most input (Err fault) = ⊥

-- the picture of the table was written, or a beginning of it; else nothing
abbrev pub WritesPicture : WaitingView → (pages : List ℕ) → Result (Unit {0}) DrawFault → Option (List ℕ) → Option (List ℕ) → Type 0
WritesPicture st pages (Ok u) before after = (picture : List ℕ) × IsPictureText st (pages_asked pages st.engine.core) picture × Appends before after picture
WritesPicture st pages (Err (Script fault)) before after = IsFromOutside fault
    × (Appends before after [] ⊎ ((picture : List ℕ) × IsPictureText st (pages_asked pages st.engine.core) picture × WritesBeginning before after picture))
WritesPicture st pages (Err fault) before after = Appends before after [] × IsDrawFault st.engine.core (pages_asked pages st.engine.core) fault

-- the table as it is behind so many lines, or all, was drawn
abbrev pub DrawsFrom : WaitingView → (most : ℕ) → (pages : List ℕ) → Result (Unit {0}) DrawFault → List ℕ → Option (List ℕ) → Option (List ℕ) → Type 0
DrawsFrom from most pages (Ok u) input before after = (read : LinesRead from input) × StopsAt most (length read.events) read.rest
    × (picture : List ℕ) × IsPictureText read.last (pages_asked pages read.last.engine.core) picture × Appends before after picture
DrawsFrom from most pages (Err (Script (BadLine n))) input before after = Appends before after [] × IsBadNext from input n
DrawsFrom from most pages (Err (Script (BadPage fault))) input before after = ⊥
DrawsFrom from most pages (Err (Script TooManyLines)) input before after = ⊥
DrawsFrom from most pages (Err (Script fault)) input before after = Appends before after []
    ⊎ ((read : LinesRead from input) × (picture : List ℕ) × IsPictureText read.last (pages_asked pages read.last.engine.core) picture × WritesBeginning before after picture)
DrawsFrom from most pages (Err fault) input before after = Appends before after []
    × (read : LinesRead from input) × StopsAt most (length read.events) read.rest × IsDrawFault read.last.engine.core (pages_asked pages read.last.engine.core) fault

-- Whole scripts.

-- allowed lines behind a first one, and what is left behind them
pub record ScriptRead (input : List ℕ) : Type 0 where
  pub settings : Settings
  pub events : List ViewEvent
  pub run : IsViewRun settings events
  pub rest : List ℕ
  pub all : input ≡ view_script settings events ++ rest

-- a first line, or the next, is bad
abbrev pub IsBadAt : ℕ → List ℕ → Type 0
IsBadAt n input = ((n ≡ 1) × IsBadHeading input) ⊎ ((read : ScriptRead input) × IsBadView read.rest × (n ≡ length read.events + 2))

-- The table behind so many lines, or all, was drawn; else nothing was written, or a beginning where the writer gave up.
abbrev pub DrawOutcome : (most : ℕ) → (pages : List ℕ) → Result (Unit {0}) DrawFault → List ℕ → Option (List ℕ) → Option (List ℕ) → Type 0
DrawOutcome most pages (Ok u) input before after = (read : ScriptRead input) × StopsAt most (length read.events) read.rest
    × (picture : List ℕ) × IsPictureText read.run.last (pages_asked pages read.run.last.engine.core) picture × Appends before after picture
DrawOutcome most pages (Err (Script (BadLine n))) input before after = Appends before after [] × IsBadAt n input
DrawOutcome most pages (Err (Script (BadPage fault))) input before after = ⊥
DrawOutcome most pages (Err (Script TooManyLines)) input before after = ⊥
DrawOutcome most pages (Err (Script fault)) input before after = Appends before after []
    ⊎ ((read : ScriptRead input) × (picture : List ℕ) × IsPictureText read.run.last (pages_asked pages read.run.last.engine.core) picture × WritesBeginning before after picture)
DrawOutcome most pages (Err fault) input before after = Appends before after []
    × (read : ScriptRead input) × StopsAt most (length read.events) read.rest × IsDrawFault read.run.last.engine.core (pages_asked pages read.run.last.engine.core) fault

-- which refusal ended a read
abbrev pub IsReadFault : DrawFault → Refusals → Type 0
IsReadFault (Script fault) log = IsRefused fault log
IsReadFault fault log = ⊥

-- which refusal a fault tells of: of memory it is not said
abbrev pub IsDrawCaused : DrawFault → Refusals → Type 0
IsDrawCaused (Script Input) log = IsRefused Input log
IsDrawCaused (Script Output) log = IsRefused Output log
IsDrawCaused fault log = Unit {0}
