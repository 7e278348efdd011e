-- Whole scripts: the lines that were read, the run of the history that they make, and what is written.
use Rattle.std.specs.Prelude.{◌≡◌, ℕ, ◌+◌, ◌<◌, ◌≤◌, ◌⊎◌, List, [], ◌∷◌, ◌++◌, length, map, slice_get, Option, Some, None, Ok, Err, Result}
use Rattle.std.specs.Option.{option_map}
use Rattle.std.specs.List.{flat_map, AllByRecursion}
use Rattle.std.specs.Io.KnownBytes.{Appends}
use Rattle.calls.specs.Words.{AreSettings}
use Rattle.calls.specs.declared.reply.Reply.{Reply}
use Rattle.calls.specs.declared.reply.Reply.TheVariants as reply
use Rattle.calls.specs.declared.settings.Settings.{Settings}
use Rattle.calls.specs.declared.step.Step.{Step}
use Rattle.calls.specs.declared.step.Step.TheVariants as step
use Rattle.calls.specs.declared.vacuum.Piece.{Piece}
use Rattle.index_entries.specs.declared.entry.Entry.{Entry}
use Rattle.script.specs.Engine.{WaitingView, IsNewWaiting, WaitingFollows, WaitingExact, RepliesLead, beginning, engine_index, bits_of, mark_on, next_id, IsRun}
use Rattle.script.specs.Pieces.{GivesText}
use Rattle.script_text.specs.Grammar.{heading, spelling, with_feed, IsAllowed}
use Rattle.script_text.specs.Answers.{reply_text, ids_text, Shown, shown_text, index_text}
use Rattle.script_text.specs.declared.line.Line.{Line}
use Rattle.script_text.specs.declared.line.Line.TheVariants.{Do, VacuumFinish, Ids, Page, Entries}
use Rattle.script.specs.declared.fault.ShellFault.{ShellFault}
use Rattle.script.specs.declared.fault.ShellFault.TheVariants.{BadLine, BadPage, TooManyLines}
use Rattle.script_text.specs.declared.line.TheConstants.{MOST_LINE_BYTES}

-- A line that was read and answered. Either it is a step with its reply. Or it is steps that finish a vacuum, with what
-- each but the last did and the last's reply. Or it is a look at the ids, a page or an index with what it showed.
pub data Event : Type 0 where
  did : Step → Reply → Event
  finished : List Piece → Reply → Event
  showed_ids : ℕ → ℕ → Event
  showed_page : ℕ → Option Shown → Event
  showed_entries : ℕ → Option (List Entry) → Event

abbrev pub line_of : Event → Line
line_of (did step reply) = Do step
line_of (finished pieces last) = VacuumFinish
line_of (showed_ids next frozen_below) = Ids
line_of (showed_page p shown) = Page p
line_of (showed_entries i entries) = Entries i

abbrev pub answer_of : Event → List ℕ
answer_of (did step reply) = reply_text reply
answer_of (finished pieces last) = reply_text last
answer_of (showed_ids next frozen_below) = ids_text next frozen_below
answer_of (showed_page p shown) = shown_text p shown
answer_of (showed_entries i entries) = index_text i entries

-- a step of the vacuum for each of these pieces, and one more
abbrev pub vacuum_steps : List Piece → List Step
vacuum_steps pieces = map (λ piece. step.VacuumStep) pieces ++ step.VacuumStep ∷ []

abbrev pub vacuum_replies : List Piece → Reply → List Reply
vacuum_replies pieces last = map (λ piece. reply.Worked piece) pieces ++ last ∷ []

-- looks are no steps of the history
abbrev pub steps_in : Event → List Step
steps_in (did step reply) = step ∷ []
steps_in (finished pieces last) = vacuum_steps pieces
steps_in look = []

abbrev pub replies_in : Event → List Reply
replies_in (did step reply) = reply ∷ []
replies_in (finished pieces last) = vacuum_replies pieces last
replies_in look = []

abbrev pub steps_of : List Event → List Step
steps_of events = flat_map steps_in events

abbrev pub replies_of : List Event → List Reply
replies_of events = flat_map replies_in events

-- the lines of the events, and those of their answers
abbrev pub lines_of : List Event → List ℕ
lines_of events = flat_map (λ e. with_feed (spelling (line_of e))) events

abbrev pub answers_of : List Event → List ℕ
answers_of events = flat_map (λ e. with_feed (answer_of e)) events

-- what a page, if it is in use, is shown as, with its bits of the visibility map
abbrev pub shown_of : WaitingView → ℕ → Option Shown
shown_of st p = option_map (λ page. record {
  change = page.change;
  visible = bits_of (mark_on st.engine.core.heap.pages.marks p);
  slots = page.slots;
}) (slice_get st.engine.core.heap.pages.pages p)

-- the steps of a vacuum end at the first that did no work, of 2^64 - 1 at most
abbrev pub EndsVacuum : List Piece → Reply → Type 0
EndsVacuum pieces last = (length pieces < 18446744073709551615)
    × ((piece : Piece) → last ≡ reply.Worked piece → length pieces + 1 ≡ 18446744073709551615)

-- A step leads the engine on, as the history allows, and in what that leaves open exactly. So does each step that
-- finishes a vacuum. A look shows what is there.
abbrev pub Moves : WaitingView → Event → WaitingView → Type 0
Moves old (did step reply) new = WaitingFollows old step reply new × WaitingExact old step reply new
Moves old (finished pieces last) new =
    RepliesLead old (vacuum_steps pieces) (vacuum_replies pieces last) new × EndsVacuum pieces last
Moves old (showed_ids next frozen_below) new = (old ≡ new) × (next ≡ next_id old.engine.core.heap.statuses) × (frozen_below ≡ old.engine.core.heap.statuses.first)
Moves old (showed_page p shown) new = (old ≡ new) × (shown ≡ shown_of old p)
Moves old (showed_entries i entries) new = (old ≡ new) × (entries ≡ option_map (λ index. index.entries) (engine_index old.engine.core i))

-- the engine's states from event to event
abbrev pub EventsLead : WaitingView → List Event → WaitingView → Type 0
EventsLead old [] new = old ≡ new
EventsLead old (e ∷ events) new = (st : WaitingView) × Moves old e st × EventsLead st events new

-- Allowed lines behind a first one with these settings. Their steps and replies are a run of the history from its beginning, and
-- all that was answered comes from an engine that is made by the settings.
pub record IsScriptRun (settings : Settings) (events : List Event) : Type 0 where
  pub in_range : AreSettings settings
  pub columns : length settings.indexed ≡ 4
  pub allowed : AllByRecursion (λ e. IsAllowed (line_of e)) events
  pub run : IsRun (beginning settings.indexed) (steps_of events) (replies_of events)
  pub first : WaitingView
  pub new : IsNewWaiting settings first
  pub last : WaitingView
  pub leads : EventsLead first events last

abbrev pub script : Settings → List Event → List ℕ
script settings events = with_feed (heading settings) ++ lines_of events

-- something is there, and an allowed line isn't at its front: so it is torn, too long, empty, unknown or out of range
pub record IsBadLine (rest : List ℕ) : Type 0 where
  pub some : 0 < length rest
  pub bad : (l : Line) (more : List ℕ) → IsAllowed l → rest ≡ with_feed (spelling l) ++ more → ⊥

-- no first line with settings in range is at the front
abbrev pub IsBadHeading : List ℕ → Type 0
IsBadHeading input = (s : Settings) (more : List ℕ) → AreSettings s → length s.indexed ≡ 4 → length (heading s) ≤ MOST_LINE_BYTES → input ≡ with_feed (heading s) ++ more → ⊥

-- a beginning of the text was written
abbrev pub WritesBeginning : Option (List ℕ) → Option (List ℕ) → List ℕ → Type 0
WritesBeginning before after text = (left : List ℕ) × GivesText before after text left

-- What a script's result says of its input and of what was written. Without a fault all lines were read and answered. After bad line n
-- those before it were, and it is the first that isn't allowed. Where the numbers of lines ran out, all lines with a number were read. No
-- page is read, so none is bad. After another fault a beginning of the answers was written.
abbrev pub ScriptOutcome : Result (Unit {0}) ShellFault → List ℕ → Option (List ℕ) → Option (List ℕ) → Type 0
ScriptOutcome (Ok u) input before after = (settings : Settings) × (events : List Event)
    × IsScriptRun settings events × (input ≡ script settings events) × Appends before after (answers_of events)
ScriptOutcome (Err (BadLine n)) input before after = ((n ≡ 1) × Appends before after [] × IsBadHeading input)
    ⊎ ((settings : Settings) × (events : List Event) × (rest : List ℕ) × IsScriptRun settings events
    × (input ≡ script settings events ++ rest) × IsBadLine rest × (n ≡ length events + 2) × Appends before after (answers_of events))
ScriptOutcome (Err (BadPage fault)) input before after = ⊥
ScriptOutcome (Err TooManyLines) input before after = (settings : Settings) × (events : List Event) × (rest : List ℕ) × IsScriptRun settings events
    × (input ≡ script settings events ++ rest) × (length events + 2 ≡ 18446744073709551615) × WritesBeginning before after (answers_of events)
ScriptOutcome (Err fault) input before after = Appends before after []
    ⊎ ((settings : Settings) × (events : List Event) × (rest : List ℕ) × IsScriptRun settings events
    × (input ≡ script settings events ++ rest) × WritesBeginning before after (answers_of events))
