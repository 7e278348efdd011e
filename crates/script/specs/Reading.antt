-- The lines of a script for threads, from the second on.
use Rattle.std.specs.Prelude.{◌≡◌, ℕ, ◌+◌, List, [], ◌++◌, length, Option, Ok, Err, Result, IfSome}
use Rattle.std.specs.List.{AllByRecursion}
use Rattle.shared_heap.specs.declared.line.WorkerLine.{WorkerLine}
use Rattle.script_text.specs.Workers.{IsWorkerAllowed}
use Rattle.script_text.specs.declared.worker_step.WorkerStep.{WorkerStep}
use Rattle.script.specs.Threads.{lists_for, workers_text, IsBadWorkerLine}
use Rattle.script.specs.declared.fault.ShellFault.{ShellFault}
use Rattle.script.specs.declared.fault.ShellFault.TheVariants.{BadLine, BadPage, TooManyLines}

-- how the reading ends: all lines are in the workers' lists, the next is bad, or a fault comes
abbrev pub EndsReading : Result (Unit {0}) ShellFault → List WorkerStep → List ℕ → List (List WorkerLine) → Type 0
EndsReading (Ok u) lines left lists = (left ≡ []) × (lists ≡ lists_for lines)
EndsReading (Err (BadLine n)) lines left lists = (n ≡ length lines + 2) × IsBadWorkerLine left
EndsReading (Err (BadPage fault)) lines left lists = ⊥
EndsReading (Err TooManyLines) lines left lists = length lines + 2 ≡ 18446744073709551615
EndsReading (Err fault) lines left lists = Unit {0}

-- lines at the front of the input are read
pub record IsRead (input : List ℕ) (lists : List (List WorkerLine)) (result : Result (Unit {0}) ShellFault) : Type 0 where
  pub lines : List WorkerStep
  pub allowed : AllByRecursion IsWorkerAllowed lines
  pub left : List ℕ
  pub text : input ≡ workers_text lines ++ left
  pub ends : EndsReading result lines left lists

abbrev pub ReadsLines : Option (List ℕ) → List ℕ → List (List WorkerLine) → Result (Unit {0}) ShellFault → Type 0
ReadsLines before pending lists result = IfSome before (λ bytes. IsRead (pending ++ bytes) lists result)
