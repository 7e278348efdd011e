-- How a transcript is cut into exchanges, step by step.
use Rattle.std.specs.Prelude.{ℕ, ◌==◌, ◌&&◌, List, [], ◌∷◌, drop, Option, Some, None, if◌then◌else◌}
use Rattle.std.specs.Option.{option_map}
use Rattle.script_text.specs.Reading.{cut_at}
use Rattle.transcript.specs.Transcripts.{is_prompted, is_next_or_end}

-- the line behind the prompt at the front, and what stands behind it
abbrev pub question_in : List ℕ → Option (List ℕ × List ℕ)
question_in text = if is_prompted text then cut_at 10 (drop 2 text) else None

-- the text up to the first line feed behind which the next exchange begins or nothing is, and what stands behind it
unfoldable pub answer_in : List ℕ → Option (List ℕ × List ℕ)
answer_in [] = None
answer_in (b ∷ bs) = if (b == 10) && is_next_or_end bs then Some ([], bs) else option_map (λ p. (b ∷ p.0, p.1)) (answer_in bs)
