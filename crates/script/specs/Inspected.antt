-- A page that is looked into: what is read is its bytes, and what is written is what they say.
use Rattle.std.specs.Prelude.{◌≡◌, ℕ, ◌⊎◌, List, [], Option, Some, None, Result, Ok, Err}
use Rattle.std.specs.Io.KnownBytes.{Appends}
use Rattle.page_slots.specs.Faults.{page_fault}
use Rattle.page_slots.specs.Reading.{page_of}
use Rattle.script_text.specs.Grammar.{with_feed}
use Rattle.script.specs.PageText.{inspected_text}
use Rattle.script.specs.declared.fault.ShellFault.{ShellFault}
use Rattle.script.specs.declared.fault.ShellFault.TheVariants.{BadLine, BadPage, TooManyLines}
use Rattle.script.specs.Script.{WritesBeginning}

-- the lines for these bytes
abbrev pub page_lines : List ℕ → List ℕ
page_lines bytes = with_feed (inspected_text (page_of bytes) bytes)

-- What the result says of the input and of what was written. Where the input is a page, its lines were. Where it is none, nothing was, and
-- the fault is the first that it has. After a refusal it was nothing, or a beginning of the lines of a page.
abbrev pub PageOutcome : Result (Unit {0}) ShellFault → List ℕ → Option (List ℕ) → Option (List ℕ) → Type 0
PageOutcome (Ok u) input before after = (page_fault input ≡ None) × Appends before after (page_lines input)
PageOutcome (Err (BadPage fault)) input before after = (page_fault input ≡ Some fault) × Appends before after []
PageOutcome (Err (BadLine n)) input before after = ⊥
PageOutcome (Err TooManyLines) input before after = ⊥
PageOutcome (Err fault) input before after =
    Appends before after [] ⊎ ((page_fault input ≡ None) × WritesBeginning before after (page_lines input))
