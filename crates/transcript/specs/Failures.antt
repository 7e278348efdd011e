-- What failed outside: the reader, or the writer.
use Rattle.std.specs.Prelude.{◌≡◌, ℕ, List, ◌++◌, Bool, true, Option}
use Rattle.std.specs.Io.KnownBytes.{Appends}
use Rattle.transcript.specs.declared.fault.Fault.{Fault}
use Rattle.transcript.specs.declared.fault.Fault.TheVariants.{Input, Output, NoMemory}

-- what is known of a log: whether the reader answered an error, and whether the writer did, or took nothing of what there was
pub record Failures : Type 0 where
  pub reader : Bool
  pub writer : Bool

-- a fault that is of the reader, or of the writer, comes of its failure
abbrev pub IsOfFailure : Fault → Failures → Type 0
IsOfFailure Input failures = failures.reader ≡ true
IsOfFailure Output failures = failures.writer ≡ true
IsOfFailure fault failures = Unit {0}

-- what may come where a text is read
abbrev pub IsOfReader : Fault → Failures → Type 0
IsOfReader Input failures = failures.reader ≡ true
IsOfReader NoMemory failures = Unit {0}
IsOfReader fault failures = ⊥

-- and where it is written
abbrev pub IsOfWriter : Fault → Failures → Type 0
IsOfWriter Output failures = failures.writer ≡ true
IsOfWriter fault failures = ⊥

-- a beginning of the text was written
abbrev pub WritesFront : Option (List ℕ) → Option (List ℕ) → List ℕ → Type 0
WritesFront before after text = (written left : List ℕ) × Appends before after written × (text ≡ written ++ left)
