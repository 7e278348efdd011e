-- Whole scripts for threads: the lines that were read, the lists of the workers, and the journal that is written.
use Rattle.std.specs.Prelude.{◌≡◌, ℕ, ◌+◌, ◌<◌, ◌==◌, ◌⊎◌, if◌then◌else◌, List, [], ◌∷◌, ◌++◌, length, map, slice_set, slice_index_or, Option, Ok, Err, Result}
use Rattle.std.specs.List.{flat_map, AllByRecursion}
use Rattle.std.specs.Io.KnownBytes.{Appends}
use Rattle.calls.specs.Words.{AreSettings}
use Rattle.calls.specs.declared.reply.Reply.{Reply}
use Rattle.calls.specs.declared.settings.Settings.{Settings}
use Rattle.calls.specs.declared.step.Step.{Step}
use Rattle.shared_heap.specs.declared.line.WorkerLine.{WorkerLine}
use Rattle.shared_heap.specs.Books.{BookView, IsBookOf, noted_steps, noted_replies}
use Rattle.shared_heap.specs.Merge.{IsMerge}
use Rattle.script_text.specs.Grammar.{heading, with_feed}
use Rattle.script_text.specs.Answers.{reply_text}
use Rattle.script_text.specs.Workers.{worker_text, noted_text, IsWorkerAllowed}
use Rattle.script_text.specs.declared.worker_step.WorkerStep.{WorkerStep}
use Rattle.script.specs.Engine.{beginning, IsRun}
use Rattle.script.specs.Script.{IsBadHeading, WritesBeginning}
use Rattle.script.specs.declared.fault.ShellFault.{ShellFault}
use Rattle.script.specs.declared.fault.ShellFault.TheVariants.{BadLine, BadPage, TooManyLines}

-- a line as its worker does it
abbrev pub work_of : WorkerStep → WorkerLine
work_of line = record { wait = line.wait; step = line.step }

-- the lines of a worker, in their order
abbrev pub work_for : ℕ → List WorkerStep → List WorkerLine
work_for worker lines = flat_map (λ (line : WorkerStep). if line.worker == worker then work_of line ∷ [] else []) lines

-- a list for each of the eight workers
abbrev pub lists_for : List WorkerStep → List (List WorkerLine)
lists_for lines = map (λ worker. work_for worker lines) (0 ∷ 1 ∷ 2 ∷ 3 ∷ 4 ∷ 5 ∷ 6 ∷ 7 ∷ [])

-- one line more, at the end of its worker's list
abbrev pub with_work : List (List WorkerLine) → WorkerStep → List (List WorkerLine)
with_work lists line = slice_set lists line.worker (slice_index_or lists line.worker [] ++ work_of line ∷ [])

-- the text of lines
abbrev pub workers_text : List WorkerStep → List ℕ
workers_text lines = flat_map (λ (line : WorkerStep). with_feed (worker_text line)) lines

abbrev pub threads_script : Settings → List WorkerStep → List ℕ
threads_script settings lines = with_feed (heading settings) ++ workers_text lines

-- an entry of the journal: its step, and behind it what was answered
abbrev pub lines_of_entry : Step × Reply → List ℕ
lines_of_entry entry = with_feed (noted_text entry.0) ++ with_feed (reply_text entry.1)

abbrev pub journal_text : List (Step × Reply) → List ℕ
journal_text journal = flat_map lines_of_entry journal

-- settings in range, which a first line can spell, and allowed lines behind it
pub record AreThreadsLines (settings : Settings) (lines : List WorkerStep) : Type 0 where
  pub in_range : AreSettings settings
  pub columns : length settings.indexed ≡ 4
  pub allowed : AllByRecursion IsWorkerAllowed lines

-- The workers did their lists. The journal is a merge of these, and a run of the history from its beginning, whose replies come
-- from an engine that is made by the settings.
pub record AreDone (settings : Settings) (lines : List WorkerStep) (journal : List (Step × Reply)) : Type 0 where
  pub merge : IsMerge (lists_for lines) journal
  pub run : IsRun (beginning settings.indexed) (noted_steps journal) (noted_replies journal)
  pub book : BookView
  pub made : IsBookOf settings book
  pub noted : book.journal ≡ journal

-- something is there, and an allowed line isn't at its front
pub record IsBadWorkerLine (rest : List ℕ) : Type 0 where
  pub some : 0 < length rest
  pub bad : (line : WorkerStep) (more : List ℕ) → IsWorkerAllowed line → rest ≡ with_feed (worker_text line) ++ more → ⊥

-- What the result of a script for threads says of its input and of what was written. Without a fault all lines were read, the workers
-- did them, and the journal was written. After bad line n nothing was written, and it is the first that isn't allowed. Where the
-- numbers of lines ran out, nothing was written either. No page is read, so none is bad. After another fault nothing was written, or
-- a beginning of a journal.
abbrev pub ThreadsOutcome : Result (Unit {0}) ShellFault → List ℕ → Option (List ℕ) → Option (List ℕ) → Type 0
ThreadsOutcome (Ok u) input before after = (settings : Settings) × (lines : List WorkerStep) × (journal : List (Step × Reply))
    × AreThreadsLines settings lines × (input ≡ threads_script settings lines) × AreDone settings lines journal × Appends before after (journal_text journal)
ThreadsOutcome (Err (BadLine n)) input before after = Appends before after []
    × (((n ≡ 1) × IsBadHeading input)
    ⊎ ((settings : Settings) × (lines : List WorkerStep) × (rest : List ℕ) × AreThreadsLines settings lines
    × (input ≡ threads_script settings lines ++ rest) × IsBadWorkerLine rest × (n ≡ length lines + 2)))
ThreadsOutcome (Err (BadPage fault)) input before after = ⊥
ThreadsOutcome (Err TooManyLines) input before after = Appends before after []
    × ((settings : Settings) × (lines : List WorkerStep) × (rest : List ℕ) × AreThreadsLines settings lines
    × (input ≡ threads_script settings lines ++ rest) × (length lines + 2 ≡ 18446744073709551615))
ThreadsOutcome (Err fault) input before after = Appends before after []
    ⊎ ((settings : Settings) × (lines : List WorkerStep) × (journal : List (Step × Reply))
    × AreThreadsLines settings lines × (input ≡ threads_script settings lines) × AreDone settings lines journal × WritesBeginning before after (journal_text journal))
