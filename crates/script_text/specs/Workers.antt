-- The lines of a script for threads: the steps of workers, and how they are noted.
use Rattle.std.specs.Prelude.{◌≡◌, ℕ, ◌<◌, ◌≤◌, ◌==◌, Bool, true, false, if◌then◌else◌, List, [], ◌++◌, length, drop, slice_index, codes, Option, None, Some}
use Rattle.std.specs.Str.{bytes_eq}
use Rattle.std.specs.Fmt.{decimal}
use Rattle.calls.specs.declared.step.Step.{Step}
use Rattle.script_text.specs.Grammar.{spaced, step_text, StepFits}
use Rattle.script_text.specs.Reading.{◌>>=◌, cut, number_then, line_at}
use Rattle.script_text.specs.declared.line.Line.{Line}
use Rattle.script_text.specs.declared.line.Line.TheVariants.{Do}
use Rattle.script_text.specs.declared.line.TheConstants.{MOST_LINE_BYTES}
use Rattle.script_text.specs.declared.worker_step.WorkerStep.{WorkerStep}

-- a word before a step that waits
abbrev pub wait_text : Bool → List ℕ
wait_text true = codes "wait "
wait_text false = []

-- `@W STEP`, or `@W wait STEP`
abbrev pub worker_text : WorkerStep → List ℕ
worker_text line = codes "@" ++ (decimal line.worker ++ spaced (wait_text line.wait ++ step_text line.step))

-- there are eight workers, and each number of the step is in its range
abbrev pub WorkerFits : WorkerStep → Type 0
WorkerFits line = (line.worker < 8) × StepFits line.step

-- what a text spells: this step of a worker, or none
abbrev pub SpellsWorker : List ℕ → Option WorkerStep → Type 0
SpellsWorker text (Some line) = WorkerFits line × (text ≡ worker_text line)
SpellsWorker text None = (line : WorkerStep) → WorkerFits line → text ≡ worker_text line → ⊥

-- what a line of a script for threads may spell: values in range, in at most 4096 bytes
pub record IsWorkerAllowed (line : WorkerStep) : Type 0 where
  pub fits : WorkerFits line
  pub short : length (worker_text line) ≤ MOST_LINE_BYTES

-- a step as it is noted
abbrev pub noted_text : Step → List ℕ
noted_text step = codes "> " ++ step_text step

-- whether the first word says that the step waits, and the words of the step
abbrev pub waits_in : Option (List ℕ × List ℕ) → List ℕ → Bool × List ℕ
waits_in None words = (false, words)
waits_in (Some parts) words = if bytes_eq parts.0 (codes "wait") then (true, parts.1) else (false, words)

-- the step that a line asks for, as this worker's
abbrev pub step_in : ℕ → Bool → Option Line → Option WorkerStep
step_in worker wait (Some (Do step)) = Some (record { worker = worker; wait = wait; step = step })
step_in worker wait other = None

-- what the words behind the worker's number ask for
unfoldable pub words_at : ℕ → List ℕ → Option WorkerStep
words_at worker words = step_in worker (waits_in (cut words) words).0 (line_at (waits_in (cut words) words).1)

-- what a line of a script for threads asks for
unfoldable pub worker_at : List ℕ → Option WorkerStep
worker_at line = if slice_index line 0 == slice_index (codes "@") 0 then (number_then 7 (drop 1 line) >>= λ p. words_at p.0 p.1) else None
