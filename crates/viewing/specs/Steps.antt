-- The lines after the first, from the engine that it asks for.
use Rattle.std.specs.Prelude.{◌≡◌, ℕ, ◌+◌, Bool, List, [], ◌++◌, length, map, Option, Ok, Err, Result, IfSome}
use Rattle.std.specs.List.{AllByRecursion}
use Rattle.std.specs.Io.KnownBytes.{Appends}
use Rattle.script_text.specs.Grammar.{LineFits, spelling, with_feed}
use Rattle.script_text.specs.declared.line.Line.{Line}
use Rattle.script.specs.Engine.{WaitingView}
use Rattle.script.specs.Script.{Event, line_of, WritesBeginning}
use Rattle.script.specs.declared.fault.ShellFault.{ShellFault}
use Rattle.script.specs.declared.fault.ShellFault.TheVariants.{BadLine, BadPage, TooManyLines}
use Rattle.xid_circle.specs.declared.Tid.{Tid}
use Rattle.session_steps.specs.State.{State}
use Rattle.sessions.specs.declared.session.Session.{Session}
use Rattle.view_text.specs.declared.look.Look.{Look}
use Rattle.view_text.specs.declared.versions.EntryLook.{EntryLook}
use Rattle.view_text.specs.Looks.{LookFits, look_text}
use Rattle.viewing.specs.Showing.{IsEntryLook, Answers}
use Rattle.viewing.specs.Viewing.{ViewEvent, scripted, looked, view_line, view_answer, line_noted, view_lines, view_answers, IsViewAllowed, ViewMoves, ViewsLead, IsBadView}

-- each number of the line is in the range of its type
abbrev pub ViewFits : ViewEvent → Type 0
ViewFits (scripted e) = LineFits (line_of e)
ViewFits (looked look text) = LookFits look

-- the answer to a look stands behind the text
abbrev pub ShowsLook : WaitingView → Look → List ℕ → List ℕ → Type 0
ShowsLook st look old new = (answer : List ℕ) × Answers st look answer × (new ≡ old ++ with_feed answer)

-- what a line asks for was done, and its answer is added
abbrev pub DoesView : List ℕ → WaitingView → WaitingView → List ℕ → List ℕ → Type 0
DoesView text from to old new = (e : ViewEvent) × ViewFits e × (text ≡ view_line e) × ViewMoves from e to × (new ≡ old ++ with_feed (view_answer e))

-- and in a journal the line stands before it
abbrev pub NotesView : (notes : Bool) → List ℕ → WaitingView → WaitingView → List ℕ → List ℕ → Type 0
NotesView notes text from to old new = (e : ViewEvent) × ViewFits e × (text ≡ view_line e) × ViewMoves from e to
    × (new ≡ old ++ (line_noted notes (view_line e) ++ with_feed (view_answer e)))

-- a text is neither a line of a script nor a look
pub record IsNoView (text : List ℕ) : Type 0 where
  pub line : (l : Line) → LineFits l → text ≡ spelling l → ⊥
  pub look : (l : Look) → LookFits l → text ≡ look_text l → ⊥

-- how the lines end: all are read, the next is bad, or a fault comes
abbrev pub EndsViews : Result (Unit {0}) ShellFault → ℕ → List ℕ → Option (List ℕ) → Option (List ℕ) → List ℕ → Type 0
EndsViews (Ok u) lines left before after text = (left ≡ []) × Appends before after text
EndsViews (Err (BadLine n)) lines left before after text = (n ≡ lines + 2) × IsBadView left × Appends before after text
EndsViews (Err (BadPage fault)) lines left before after text = ⊥
EndsViews (Err TooManyLines) lines left before after text = (lines + 2 ≡ 18446744073709551615) × WritesBeginning before after text
EndsViews (Err fault) lines left before after text = WritesBeginning before after text

-- lines at the front of the input are run, and what they give is written behind the text
pub record ViewAdvance (notes : Bool) (from : WaitingView) (input : List ℕ) (before after : Option (List ℕ)) (text : List ℕ) (result : Result (Unit {0}) ShellFault) : Type 0 where
  pub events : List ViewEvent
  pub allowed : AllByRecursion IsViewAllowed events
  pub last : WaitingView
  pub leads : ViewsLead from events last
  pub left : List ℕ
  pub lines : input ≡ view_lines events ++ left
  pub ends : EndsViews result (length events) left before after (text ++ view_answers notes events)

abbrev pub ViewAdvances : (notes : Bool) → WaitingView → Option (List ℕ) → Option (List ℕ) → Option (List ℕ) → List ℕ → List ℕ → Result (Unit {0}) ShellFault → Type 0
ViewAdvances notes from input before after pending text result =
    IfSome input (λ bytes. ViewAdvance notes from (pending ++ bytes) before after text result)

-- these are looks at entries that lead to these places, in their order
pub record AreEntryLooks (st : State) (e : Session) (places : List Tid) (looks : List EntryLook) : Type 0 where
  pub same : map (λ (look : EntryLook). look.place) looks ≡ places
  pub each : AllByRecursion (IsEntryLook st e) looks
