-- How bytes come in and go out in pieces.
use Rattle.std.specs.Prelude.{◌≡◌, ℕ, ◌<◌, ◌≤◌, ◌==◌, ◌⊎◌, List, ◌++◌, length, Option, None, Some, position}
use Rattle.std.specs.Io.KnownBytes.{Appends, Consumes, IsAtEnd}
use Rattle.script_text.specs.declared.line.TheConstants.{MOST_LINE_BYTES}

-- what is pending, from start to end of a buffer of so many bytes
pub record LiesInBuffer (start end size : ℕ) : Type 0 where
  -- it ends where it begins, or behind
  pub order : start ≤ end
  -- and in the buffer
  pub within : end ≤ size
  -- which never grows: it takes the longest line, and more behind it
  pub fixed : size ≡ 65536

-- the reader gave more, which stands behind what was pending
abbrev pub TakesText : Option (List ℕ) → Option (List ℕ) → List ℕ → List ℕ → Type 0
TakesText before after old new = (more : List ℕ) × Consumes before after more × (new ≡ old ++ more)

-- the writer took what stands at the front of the text, and the rest of the text is kept
abbrev pub GivesText : Option (List ℕ) → Option (List ℕ) → List ℕ → List ℕ → Type 0
GivesText before after old new = (written : List ℕ) × Appends before after written × (old ≡ written ++ new)

-- no line of at most 4096 bytes is at the front of what is pending, and what is left behind it
abbrev pub HasNoLine : List ℕ → Option (List ℕ) → Type 0
HasNoLine pending rest = (0 < length pending) × (((MOST_LINE_BYTES < length pending) × ((n : ℕ) → position (λ b. b == 10) pending ≡ Some n → MOST_LINE_BYTES < n)) ⊎ ((position (λ b. b == 10) pending ≡ None) × IsAtEnd rest))
