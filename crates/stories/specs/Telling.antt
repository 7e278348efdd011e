-- What is told of each line.
use Rattle.std.specs.Prelude.{◌≡◌, ℕ, ◌<◌, ◌⊎◌, List, [], ◌∷◌, ◌++◌, codes, length, Option, Some, None}
use Rattle.std.specs.Option.{option_and_then}
use Rattle.calls.specs.Bars.{BarsOpen}
use Rattle.calls.specs.declared.reply.Refusal.{Refusal}
use Rattle.calls.specs.declared.step.Step.{Step}
use Rattle.calls.specs.declared.step.Step.TheVariants as step
use Rattle.sessions.specs.declared.session.Session.{Session}
use Rattle.session_steps.specs.State.{State, session_at, engine_sessions}
use Rattle.script.specs.Engine.{WaitingView}
use Rattle.script.specs.declared.fault.ShellFault.TheVariants.{NoMemory}
use Rattle.script_text.specs.Grammar.{Spells, with_feed}
use Rattle.script_text.specs.declared.line.Line.{Line}
use Rattle.script_text.specs.declared.line.Line.TheVariants.{Do}
use Rattle.view_text.specs.declared.versions.EntryLook.{EntryLook}
use Rattle.viewing.specs.Showing.{IsExplanation}
use Rattle.viewing.specs.Viewing.{ViewEvent, view_line, view_answer, ViewMoves}
use Rattle.viewing.specs.Steps.{ViewFits}
use Rattle.shapes.specs.declared.fault.TheConstants.{MOST_PAGES}
use Rattle.stories.specs.declared.draw_fault.DrawFault.{DrawFault}
use Rattle.stories.specs.declared.draw_fault.DrawFault.TheVariants.{Script, TooManyPages}
use Rattle.shapes.specs.Pictures.{all_pages, IsPictureText}
use Rattle.stories.specs.Html.{explanation_html, item_html, head_html, section_html}

-- Explanations.

-- the session and the key of a step that reads one
abbrev pub read_by : Step → Option (ℕ × ℕ)
read_by (step.Get s key) = Some (s, key)
read_by (step.Insert s row) = Some (s, row.key)
read_by (step.Update s row) = Some (s, row.key)
read_by (step.Delete s key) = Some (s, key)
read_by other = None

abbrev pub read_of : Line → Option (ℕ × ℕ)
read_of (Do step) = read_by step
read_of other = None

-- that of a line, if it is one of a script
abbrev pub IsReadingOf : (line : List ℕ) → Option (ℕ × ℕ) → Type 0
IsReadingOf line read = (parsed : Option Line) × Spells line parsed × (read ≡ option_and_then read_of parsed)

-- what a statement of the session, begun now, finds of the key, if the session is open
abbrev pub ExplainsKey : State → (s key : ℕ) → List ℕ → Type 0
ExplainsKey st s key text = ((r : Refusal) × BarsOpen (engine_sessions st) s r × (text ≡ []))
    ⊎ ((e : Session) × (entries : List EntryLook) × (session_at st s ≡ Some e) × IsExplanation st e key entries × (text ≡ explanation_html s key entries))

abbrev pub ExplainsRead : State → Option (ℕ × ℕ) → List ℕ → Type 0
ExplainsRead st None text = text ≡ []
ExplainsRead st (Some read) text = ExplainsKey st read.0 read.1 text

abbrev pub ExplainsLine : State → (line : List ℕ) → List ℕ → Type 0
ExplainsLine st line text = (read : Option (ℕ × ℕ)) × IsReadingOf line read × ExplainsRead st read text

-- Sections.

-- a picture of all pages
abbrev pub IsWholePicture : WaitingView → List ℕ → Type 0
IsWholePicture e picture = IsPictureText e (all_pages e.engine.core) picture

-- what is told of a line which leads from one state of the table to another: what it finds in the one, and a picture of the other
pub record IsTold (from to : WaitingView) (line : List ℕ) (told : List ℕ) : Type 0 where
  pub explained : List ℕ
  pub explains : ExplainsLine from.engine.core line explained
  pub picture : List ℕ
  pub draws : IsWholePicture to picture
  pub is : told ≡ section_html line explained picture

-- the parts of that: the first and the second, and the rest
abbrev pub IsBegun : State → (line : List ℕ) → List ℕ → Type 0
IsBegun st line text = (explained : List ℕ) × ExplainsLine st line explained × (text ≡ head_html line ++ explained)

abbrev pub IsEnded : WaitingView → List ℕ → Type 0
IsEnded e text = (picture : List ℕ) × IsWholePicture e picture × (text ≡ picture ++ codes "</section>")

-- the first line makes the table
pub record IsFirstTold (first : WaitingView) (line : List ℕ) (told : List ℕ) : Type 0 where
  pub picture : List ℕ
  pub draws : IsWholePicture first picture
  pub is : told ≡ section_html line [] picture

-- the lines lead from state to state, and each is told
abbrev pub AreTold : WaitingView → List ViewEvent → WaitingView → List ℕ → Type 0
AreTold from [] to told = (from ≡ to) × (told ≡ [])
AreTold from (e ∷ events) to told = (st : WaitingView) × (one : List ℕ) × (rest : List ℕ) × ViewMoves from e st × IsTold from st (view_line e) one
    × AreTold st events to rest × (told ≡ one ++ rest)

-- a line was done and told: its item stands behind those of other lines, and what is told of it behind what was told
pub record TellsLine (line : List ℕ) (from to : WaitingView) (items items' told told' : List ℕ) : Type 0 where
  pub event : ViewEvent
  pub fits : ViewFits event
  pub line_is : line ≡ view_line event
  pub moves : ViewMoves from event to
  pub one : List ℕ
  pub one_told : IsTold from to line one
  pub items_behind : items' ≡ items ++ item_html line (with_feed (view_answer event))
  pub told_behind : told' ≡ told ++ one

-- why there is no picture: the table has more pages than are shown; or memory was refused
abbrev pub IsUndrawn : WaitingView → DrawFault → Type 0
IsUndrawn e TooManyPages = MOST_PAGES < length e.engine.core.heap.pages.pages
IsUndrawn e (Script NoMemory) = Unit {0}
IsUndrawn e fault = ⊥

-- why a line is not told: there is none behind it
abbrev pub IsTellFault : (line : List ℕ) → WaitingView → WaitingView → DrawFault → Type 0
IsTellFault line from to TooManyPages = (e : ViewEvent) × ViewFits e × (line ≡ view_line e) × ViewMoves from e to × (MOST_PAGES < length to.engine.core.heap.pages.pages)
IsTellFault line from to (Script NoMemory) = Unit {0}
IsTellFault line from to fault = ⊥
