-- The lines after the first, from the engine that it asks for.
use Rattle.std.specs.Prelude.{◌≡◌, ℕ, ◌+◌, List, [], ◌++◌, length, Option, Ok, Err, Result, IfSome}
use Rattle.std.specs.List.{AllByRecursion}
use Rattle.std.specs.Io.KnownBytes.{Appends, Consumes}
use Rattle.script.specs.Engine.{WaitingView}
use Rattle.script_text.specs.Grammar.{IsAllowed, LineFits, spelling, with_feed}
use Rattle.script.specs.Script.{Event, line_of, answer_of, lines_of, answers_of, Moves, EventsLead, IsBadLine, IsBadHeading, WritesBeginning}
use Rattle.script.specs.declared.fault.ShellFault.{ShellFault}
use Rattle.script.specs.declared.fault.ShellFault.TheVariants.{BadLine, BadPage, TooManyLines}

-- what a line asks for was done, and its answer is added
abbrev pub DoesLine : List ℕ → WaitingView → WaitingView → List ℕ → List ℕ → Type 0
DoesLine text from to old new = (e : Event) × LineFits (line_of e) × (text ≡ spelling (line_of e)) × Moves from e to × (new ≡ old ++ with_feed (answer_of e))

-- how the lines end: all are read, the next is bad, or a fault comes
abbrev pub EndsLines : Result (Unit {0}) ShellFault → ℕ → List ℕ → Option (List ℕ) → Option (List ℕ) → List ℕ → Type 0
EndsLines (Ok u) lines left before after text = (left ≡ []) × Appends before after text
EndsLines (Err (BadLine n)) lines left before after text = (n ≡ lines + 2) × IsBadLine left × Appends before after text
EndsLines (Err (BadPage fault)) lines left before after text = ⊥
EndsLines (Err TooManyLines) lines left before after text = (lines + 2 ≡ 18446744073709551615) × WritesBeginning before after text
EndsLines (Err fault) lines left before after text = WritesBeginning before after text

-- lines at the front of the input are run, and their answers written behind the text
pub record Advance (from : WaitingView) (input : List ℕ) (before after : Option (List ℕ)) (text : List ℕ) (result : Result (Unit {0}) ShellFault) : Type 0 where
  pub events : List Event
  pub allowed : AllByRecursion (λ e. IsAllowed (line_of e)) events
  pub last : WaitingView
  pub leads : EventsLead from events last
  pub left : List ℕ
  pub lines : input ≡ lines_of events ++ left
  pub ends : EndsLines result (length events) left before after (text ++ answers_of events)

abbrev pub Advances : WaitingView → Option (List ℕ) → Option (List ℕ) → Option (List ℕ) → List ℕ → List ℕ → Result (Unit {0}) ShellFault → Type 0
Advances from input before after pending text result =
    IfSome input (λ bytes. Advance from (pending ++ bytes) before after text result)

-- what was read stands behind what was pending; some of it is used, and the rest is pending now
abbrev pub Uses : Option (List ℕ) → Option (List ℕ) → List ℕ → List ℕ → List ℕ → Type 0
Uses before after old used new = (more : List ℕ) × Consumes before after more × (old ++ more ≡ used ++ new)

-- why there is no engine: the first line is bad, or a fault came
abbrev pub MatchesHeading : ShellFault → Option (List ℕ) → Type 0
MatchesHeading (BadLine n) input = (n ≡ 1) × IfSome input (λ bytes. IsBadHeading bytes)
MatchesHeading (BadPage fault) input = ⊥
MatchesHeading TooManyLines input = ⊥
MatchesHeading fault input = Unit {0}
