-- Whole scripts with looks: the lines that were read, the run of the engine that they make, and what is written.
use Rattle.std.specs.Prelude.{◌≡◌, ℕ, ◌+◌, ◌<◌, ◌≤◌, ◌⊎◌, Bool, true, false, List, [], ◌∷◌, ◌++◌, codes, length, Option, Ok, Err, Result}
use Rattle.std.specs.List.{flat_map, AllByRecursion}
use Rattle.std.specs.Io.KnownBytes.{Appends}
use Rattle.calls.specs.Words.{AreSettings}
use Rattle.calls.specs.declared.settings.Settings.{Settings}
use Rattle.script_text.specs.Grammar.{heading, spelling, with_feed, IsAllowed}
use Rattle.script_text.specs.declared.line.Line.{Line}
use Rattle.script.specs.Engine.{WaitingView, IsNewWaiting}
use Rattle.script.specs.Script.{Event, line_of, answer_of, Moves, IsScriptRun, IsBadHeading, WritesBeginning}
use Rattle.script.specs.declared.fault.ShellFault.{ShellFault}
use Rattle.script.specs.declared.fault.ShellFault.TheVariants.{BadLine, BadPage, TooManyLines}
use Rattle.view_text.specs.declared.look.Look.{Look}
use Rattle.view_text.specs.Looks.{look_text, IsLookAllowed}
use Rattle.viewing.specs.Showing.{Answers}

-- a line that was read and answered: one of a script, with what it did; or a look, with its answer
pub data ViewEvent : Type 0 where
  scripted : Event → ViewEvent
  looked : Look → List ℕ → ViewEvent

abbrev pub view_line : ViewEvent → List ℕ
view_line (scripted e) = spelling (line_of e)
view_line (looked look text) = look_text look

abbrev pub view_answer : ViewEvent → List ℕ
view_answer (scripted e) = answer_of e
view_answer (looked look text) = text

-- a journal notes each line before its answer
abbrev pub line_noted : Bool → List ℕ → List ℕ
line_noted true line = with_feed (codes "> " ++ line)
line_noted false line = []

-- the lines of the events, and what is written for them, as a journal or not
abbrev pub view_lines : List ViewEvent → List ℕ
view_lines events = flat_map (λ e. with_feed (view_line e)) events

abbrev pub view_answers : (notes : Bool) → List ViewEvent → List ℕ
view_answers notes events = flat_map (λ e. line_noted notes (view_line e) ++ with_feed (view_answer e)) events

-- each number is in range, in at most 4096 bytes
abbrev pub IsViewAllowed : ViewEvent → Type 0
IsViewAllowed (scripted e) = IsAllowed (line_of e)
IsViewAllowed (looked look text) = IsLookAllowed look

-- a line of a script leads the engine on as it does there; a look changes nothing, and its answer is what is there
abbrev pub ViewMoves : WaitingView → ViewEvent → WaitingView → Type 0
ViewMoves old (scripted e) new = Moves old e new
ViewMoves old (looked look text) new = (old ≡ new) × Answers old look text

abbrev pub ViewsLead : WaitingView → List ViewEvent → WaitingView → Type 0
ViewsLead old [] new = old ≡ new
ViewsLead old (e ∷ events) new = (st : WaitingView) × ViewMoves old e st × ViewsLead st events new

-- the looks left out
abbrev pub done_in : ViewEvent → List Event
done_in (scripted e) = e ∷ []
done_in (looked look text) = []

abbrev pub done_of : List ViewEvent → List Event
done_of events = flat_map done_in events

-- Allowed lines behind a first one with these settings. The lines that are no looks are a run of a script, as if no look stood between
-- them. All that was answered comes from one engine that is made by the settings.
pub record IsViewRun (settings : Settings) (events : List ViewEvent) : Type 0 where
  pub run : IsScriptRun settings (done_of events)
  pub allowed : AllByRecursion IsViewAllowed events
  pub first : WaitingView
  pub new : IsNewWaiting settings first
  pub last : WaitingView
  pub leads : ViewsLead first events last

abbrev pub view_script : Settings → List ViewEvent → List ℕ
view_script settings events = with_feed (heading settings) ++ view_lines events

-- something is there, and neither an allowed line of a script nor an allowed look is at its front
pub record IsBadView (rest : List ℕ) : Type 0 where
  pub some : 0 < length rest
  pub line : (l : Line) (more : List ℕ) → IsAllowed l → rest ≡ with_feed (spelling l) ++ more → ⊥
  pub look : (l : Look) (more : List ℕ) → IsLookAllowed l → rest ≡ with_feed (look_text l) ++ more → ⊥

-- What a script's result says of its input and of what was written. Without a fault all lines were read and answered. After bad line n
-- those before it were, and it is the first that isn't allowed. Where the numbers of lines ran out, all lines with a number were read. No
-- page is read, so none is bad. After another fault a beginning of the answers was written.
abbrev pub ViewOutcome : (notes : Bool) → Result (Unit {0}) ShellFault → List ℕ → Option (List ℕ) → Option (List ℕ) → Type 0
ViewOutcome notes (Ok u) input before after = (settings : Settings) × (events : List ViewEvent)
    × IsViewRun settings events × (input ≡ view_script settings events) × Appends before after (view_answers notes events)
ViewOutcome notes (Err (BadLine n)) input before after = ((n ≡ 1) × Appends before after [] × IsBadHeading input)
    ⊎ ((settings : Settings) × (events : List ViewEvent) × (rest : List ℕ) × IsViewRun settings events
    × (input ≡ view_script settings events ++ rest) × IsBadView rest × (n ≡ length events + 2) × Appends before after (view_answers notes events))
ViewOutcome notes (Err (BadPage fault)) input before after = ⊥
ViewOutcome notes (Err TooManyLines) input before after = (settings : Settings) × (events : List ViewEvent) × (rest : List ℕ) × IsViewRun settings events
    × (input ≡ view_script settings events ++ rest) × (length events + 2 ≡ 18446744073709551615) × WritesBeginning before after (view_answers notes events)
ViewOutcome notes (Err fault) input before after = Appends before after []
    ⊎ ((settings : Settings) × (events : List ViewEvent) × (rest : List ℕ) × IsViewRun settings events
    × (input ≡ view_script settings events ++ rest) × WritesBeginning before after (view_answers notes events))
