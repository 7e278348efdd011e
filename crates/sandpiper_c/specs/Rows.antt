-- Rows, as C reads and writes them.
use Rattle.std.specs.Prelude.{◌≡◌, ℕ, ◌≤◌, List, length, take}
use Rattle.calls.specs.Words.{RowToWrite}
use Rattle.tuple_header.specs.declared.row_place.RowPlace.{RowPlace}

-- the bytes that count are the first, as many as the length says; where there are not so many, the text is longer than all of them
pub record IsBody (body : List ℕ) (count : ℕ) (text : List ℕ) : Type 0 where
  pub long : length text ≡ count
  pub first : count ≤ length body → text ≡ take count body

-- the row that C asks to write
pub record IsText (row : RowPlace) (text : RowToWrite) : Type 0 where
  pub key : text.key ≡ row.key
  pub cols : text.cols ≡ row.cols
  pub body : IsBody row.body row.length text.body

-- it is this one where the length is at most 1024
abbrev pub text_within : RowPlace → RowToWrite
text_within row = record { key = row.key; cols = row.cols; body = take row.length row.body }
