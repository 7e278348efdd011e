-- What a story says of its input and of what was written.
use Rattle.std.specs.Prelude.{◌≡◌, ℕ, ◌+◌, ◌<◌, ◌≤◌, ◌⊎◌, List, [], ◌++◌, length, Option, Ok, Err, Result}
use Rattle.std.specs.Io.KnownBytes.{Appends}
use Rattle.calls.specs.Words.{AreSettings}
use Rattle.calls.specs.declared.settings.Settings.{Settings}
use Rattle.script.specs.Engine.{WaitingView, IsNewWaiting}
use Rattle.script.specs.Refusals.{Refusals}
use Rattle.script.specs.Steps.{Uses, MatchesHeading}
use Rattle.script.specs.Script.{WritesBeginning}
use Rattle.script.specs.declared.fault.ShellFault.TheVariants.{BadLine, BadPage, TooManyLines as NumbersRanOut}
use Rattle.script_text.specs.Grammar.{heading, with_feed}
use Rattle.viewing.specs.Viewing.{ViewEvent}
use Rattle.shapes.specs.declared.fault.TheConstants.{MOST_PAGES}
use Rattle.stories.specs.declared.draw_fault.DrawFault.{DrawFault}
use Rattle.stories.specs.declared.draw_fault.DrawFault.TheVariants.{Script, TooManyPages, NoSuchPage}
use Rattle.shapes.specs.Pictures.{AddsText}
use Rattle.stories.specs.DrawOutcomes.{LinesRead, IsBadNext, IsFromOutside, ScriptRead, IsBadAt, IsDrawCaused}
use Rattle.stories.specs.declared.page.TheConstants.{BEGINNING, MIDDLE, END}
use Rattle.stories.specs.declared.story.TheConstants.{MOST_LINES}
use Rattle.stories.specs.declared.fault.StoryFault.{StoryFault}
use Rattle.stories.specs.declared.fault.StoryFault.TheVariants.{Drawing, TooManyLines}
use Rattle.stories.specs.Html.{first_item, items_html}
use Rattle.stories.specs.Telling.{IsFirstTold, AreTold}

-- The page of HTML: the list of lines, and what is told of each; what stands before, between and behind is the same of all.
unfoldable pub page_html : (items told : List ℕ) → List ℕ
page_html items told = BEGINNING.now ++ (items ++ (MIDDLE.now ++ (told ++ END.now)))

-- The first line.

-- it makes the table
abbrev pub MakesTable : WaitingView → (line : List ℕ) → Option (List ℕ) → Option (List ℕ) → List ℕ → Type 0
MakesTable e line before now pending = (s : Settings) × IsNewWaiting s e × AreSettings s × (length s.indexed ≡ 4) × (line ≡ heading s)
    × Uses before now [] (with_feed (heading s)) pending

-- or it does not
abbrev pub MatchesFirst : DrawFault → Option (List ℕ) → Type 0
MatchesFirst (Script fault) input = MatchesHeading fault input
MatchesFirst fault input = ⊥

-- Behind the first line.

-- all lines lead the table on, and each is told
abbrev pub TellsAll : WaitingView → WaitingView → (items items' told told' input : List ℕ) → Result (Unit {0}) StoryFault → Type 0
TellsAll from to items items' told told' input (Ok u) = (read : LinesRead from input) × (read.last ≡ to) × (read.rest ≡ []) × (length read.events + 1 ≤ MOST_LINES)
    × (items' ≡ items ++ items_html read.events) × AddsText (AreTold from read.events to) told told'
TellsAll from to items items' told told' input (Err (Drawing (Script (BadLine n)))) = IsBadNext from input n
TellsAll from to items items' told told' input (Err (Drawing (Script fault))) = IsFromOutside fault
TellsAll from to items items' told told' input (Err (Drawing TooManyPages)) = (read : LinesRead from input) × (MOST_PAGES < length read.last.engine.core.heap.pages.pages)
TellsAll from to items items' told told' input (Err (Drawing (NoSuchPage p))) = ⊥
TellsAll from to items items' told told' input (Err TooManyLines) = (read : LinesRead from input) × (length read.events + 1 ≡ MOST_LINES) × (0 < length read.rest)

-- nothing is left
abbrev pub EndsHere : List ℕ → Result (Unit {0}) StoryFault → Type 0
EndsHere input (Ok u) = input ≡ []
EndsHere input (Err TooManyLines) = 0 < length input
EndsHere input (Err (Drawing (Script fault))) = IsFromOutside fault
EndsHere input (Err fault) = ⊥

-- a page was written, or a beginning of it where the writer gave up
abbrev pub WritesPage : (page : List ℕ) → Option (List ℕ) → Option (List ℕ) → Result (Unit {0}) StoryFault → Type 0
WritesPage page before after (Ok u) = Appends before after page
WritesPage page before after (Err (Drawing (Script fault))) = IsFromOutside fault × (Appends before after [] ⊎ WritesBeginning before after page)
WritesPage page before after (Err fault) = ⊥

-- the story of a first line and of those behind it: the lines with their answers, and what is told of each
pub record IsStory (line : List ℕ) (first : WaitingView) (events : List ViewEvent) (last : WaitingView) (page : List ℕ) : Type 0 where
  pub of_first : List ℕ
  pub first_told : IsFirstTold first line of_first
  pub of_rest : List ℕ
  pub rest_told : AreTold first events last of_rest
  pub is : page ≡ page_html (first_item line ++ items_html events) (of_first ++ of_rest)

-- the story of a first line and of all behind it was written, from the table that the first made; else nothing, or a beginning
abbrev pub TellsFrom : WaitingView → (line input : List ℕ) → Option (List ℕ) → Option (List ℕ) → Result (Unit {0}) StoryFault → Type 0
TellsFrom from line input before after (Ok u) = (read : LinesRead from input) × (read.rest ≡ []) × (length read.events + 1 ≤ MOST_LINES)
    × (page : List ℕ) × IsStory line from read.events read.last page × Appends before after page
TellsFrom from line input before after (Err (Drawing (Script (BadLine n)))) = Appends before after [] × IsBadNext from input n
TellsFrom from line input before after (Err (Drawing (Script (BadPage fault)))) = ⊥
TellsFrom from line input before after (Err (Drawing (Script NumbersRanOut))) = ⊥
TellsFrom from line input before after (Err (Drawing (Script fault))) = Appends before after []
    ⊎ ((read : LinesRead from input) × (read.rest ≡ []) × (page : List ℕ) × IsStory line from read.events read.last page × WritesBeginning before after page)
TellsFrom from line input before after (Err (Drawing TooManyPages)) = Appends before after []
    × (read : LinesRead from input) × (MOST_PAGES < length read.last.engine.core.heap.pages.pages)
TellsFrom from line input before after (Err (Drawing (NoSuchPage p))) = ⊥
TellsFrom from line input before after (Err TooManyLines) = Appends before after []
    × (read : LinesRead from input) × (length read.events + 1 ≡ MOST_LINES) × (0 < length read.rest)

-- Whole scripts.

-- without a fault all lines were read, and their story was written; else nothing was, or a beginning where the writer gave up
abbrev pub StoryOutcome : Result (Unit {0}) StoryFault → List ℕ → Option (List ℕ) → Option (List ℕ) → Type 0
StoryOutcome (Ok u) input before after = (read : ScriptRead input) × (read.rest ≡ []) × (length read.events + 1 ≤ MOST_LINES)
    × (page : List ℕ) × IsStory (heading read.settings) read.run.first read.events read.run.last page × Appends before after page
StoryOutcome (Err (Drawing (Script (BadLine n)))) input before after = Appends before after [] × IsBadAt n input
StoryOutcome (Err (Drawing (Script (BadPage fault)))) input before after = ⊥
StoryOutcome (Err (Drawing (Script NumbersRanOut))) input before after = ⊥
StoryOutcome (Err (Drawing (Script fault))) input before after = Appends before after []
    ⊎ ((read : ScriptRead input) × (read.rest ≡ []) × (page : List ℕ) × IsStory (heading read.settings) read.run.first read.events read.run.last page × WritesBeginning before after page)
StoryOutcome (Err (Drawing TooManyPages)) input before after = Appends before after []
    × (read : ScriptRead input) × (MOST_PAGES < length read.run.last.engine.core.heap.pages.pages)
StoryOutcome (Err (Drawing (NoSuchPage p))) input before after = ⊥
StoryOutcome (Err TooManyLines) input before after = Appends before after []
    × (read : ScriptRead input) × (length read.events + 1 ≡ MOST_LINES) × (0 < length read.rest)

-- which refusal a fault tells of: of memory it is not said
abbrev pub IsStoryCaused : StoryFault → Refusals → Type 0
IsStoryCaused (Drawing fault) log = IsDrawCaused fault log
IsStoryCaused TooManyLines log = Unit {0}
