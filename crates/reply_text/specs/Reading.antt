-- What the reader of a reply gives, step by step.
use Rattle.std.specs.Prelude.{ℕ, ◌-◌, ◌^◌, ◌==◌, ◌&&◌, nat_le, Bool, List, [], ◌∷◌, ◌++◌, length, codes, Option, Some, None, if◌then◌else◌}
use Rattle.std.specs.Option.{option_map}
use Rattle.std.specs.Str.{bytes_eq}
use Rattle.std.specs.List.{slice_split}
use Rattle.tuple_header.specs.declared.version.Row.{Row}
use Rattle.tuple_header.specs.declared.version.TheConstants.{MOST_BODY}
use Rattle.calls.specs.Words.{row_of}
use Rattle.calls.specs.declared.reply.Refusal.{Refusal}
use Rattle.calls.specs.declared.reply.Refusal.TheVariants as refusal
use Rattle.calls.specs.declared.reply.Reply.{Reply}
use Rattle.calls.specs.declared.reply.Reply.TheVariants as reply
use Rattle.calls.specs.declared.vacuum.Piece.TheVariants as piece
use Rattle.script_text.specs.Reading.{◌>>=◌, cut, cut_at, number_of, row_words_of}

-- a reply as it is told: of rows and of keys the list, whatever room there is behind it
pub data Telling : Type 0 where
  plain : Reply → Telling
  rows : List Row → Telling
  keys : List ℕ → Telling

abbrev pub told : Reply → Telling
told (reply.Rows found) = rows found.items
told (reply.Keys found) = keys found.items
told reply = plain reply

-- a row: its key, its columns and its body, as in the line that inserts it
unfoldable pub table_row_of : List ℕ → Option Row
table_row_of xs = do
  p ← row_words_of (codes "0 " ++ xs)
  if (p.0 == 0) && nat_le (length p.1.body) MOST_BODY then Some (row_of p.1) else None

-- what stands behind this first word
unfoldable pub behind : List ℕ → List ℕ → Option (List ℕ)
behind word xs = do
  parts ← cut xs
  if bytes_eq parts.0 word then Some parts.1 else None

-- the line of a row, and that of a key
abbrev pub row_line_of : List ℕ → Option Row
row_line_of line = behind (codes "row") line >>= λ rest. table_row_of rest

abbrev pub key_line_of : List ℕ → Option ℕ
key_line_of line = behind (codes "key") line >>= λ rest. number_of (2 ^ 64 - 1) rest

-- what each of the lines says
unfoldable pub each_of : {A : Type 0} → (List ℕ → Option A) → List (List ℕ) → Option (List A)
each_of read [] = Some []
each_of read (line ∷ lines) = do
  x ← read line
  xs ← each_of read lines
  Some (x ∷ xs)

-- the lines of a text
abbrev pub feed_split : List ℕ → List (List ℕ)
feed_split text = slice_split (λ b. b == 10) text

-- as many of these as the number says
abbrev pub so_many : {A : Type 0} → ℕ → List A → Option (List A)
so_many n xs = if n == length xs then Some xs else None

-- a number, and so many lines behind it
abbrev pub lines_behind : {A : Type 0} → (List ℕ → Option A) → List ℕ → Option (List ℕ × List ℕ) → Option (List A)
lines_behind read words None = number_of (2 ^ 64 - 1) words >>= λ n. so_many n []
lines_behind read words (Some parts) = number_of (2 ^ 64 - 1) parts.0 >>= λ n. each_of read (feed_split parts.1) >>= λ xs. so_many n xs

abbrev pub counted_of : {A : Type 0} → (List ℕ → Option A) → List ℕ → Option (List A)
counted_of read words = lines_behind read words (cut_at 10 words)

-- the refusals that have nothing to say besides: those that come most, and the others
abbrev pub Named : Type 0
Named = List (List ℕ × Refusal)

abbrev pub usual_refusals : Named
usual_refusals =
    (codes "1 NotOpen", refusal.NotOpen)
    ∷ (codes "2 AlreadyOpen", refusal.AlreadyOpen)
    ∷ (codes "3 Failed", refusal.Failed)
    ∷ (codes "4 AlreadyThere", refusal.AlreadyThere)
    ∷ (codes "5 NotThere", refusal.NotThere)
    ∷ (codes "6 Conflict", refusal.Conflict)
    ∷ (codes "8 Deadlock", refusal.Deadlock)
    ∷ (codes "9 CursorOpen", refusal.CursorOpen)
    ∷ (codes "10 NoCursor", refusal.NoCursor)
    ∷ (codes "11 TooDeep", refusal.TooDeep)
    ∷ (codes "12 NoSavepoint", refusal.NoSavepoint)
    ∷ (codes "13 TooLarge", refusal.TooLarge)
    ∷ []

abbrev pub other_refusals : Named
other_refusals =
    (codes "14 NoRoom", refusal.NoRoom)
    ∷ (codes "15 NeedsFreeze", refusal.NeedsFreeze)
    ∷ (codes "16 NoMemory", refusal.NoMemory)
    ∷ (codes "17 VacuumRunning", refusal.VacuumRunning)
    ∷ (codes "18 NoVacuum", refusal.NoVacuum)
    ∷ (codes "19 NoSuchPage", refusal.NoSuchPage)
    ∷ (codes "20 NoSuchIndex", refusal.NoSuchIndex)
    ∷ (codes "21 Stale", refusal.Stale)
    ∷ (codes "22 IndexTooNew", refusal.IndexTooNew)
    ∷ (codes "23 NoSuchSession", refusal.NoSuchSession)
    ∷ (codes "24 BadBounds", refusal.BadBounds)
    ∷ (codes "25 IndexBusy", refusal.IndexBusy)
    ∷ []

-- the first whose words these are
abbrev pub refusal_in : Named → List ℕ → Option Refusal
refusal_in [] words = None
refusal_in (named ∷ others) words = if bytes_eq words named.0 then Some named.1 else refusal_in others words

-- the number and the name of Busy, and a session
unfoldable pub busy_of : List ℕ → Option Refusal
busy_of words = do
  number ← cut words
  name ← cut number.1
  if bytes_eq number.0 (codes "7") && bytes_eq name.0 (codes "Busy") then option_map (λ s. refusal.Busy s) (number_of 255 name.1) else None

abbrev pub refusal_or : Option Refusal → List ℕ → Option Refusal
refusal_or None words = refusal_in (usual_refusals ++ other_refusals) words
refusal_or (Some r) words = Some r

unfoldable pub refusal_named : List ℕ → Option Refusal
refusal_named words = refusal_or (busy_of words) words

-- first words of replies of several words: each is spelled so, and says this with the words behind it
abbrev pub Sayings : Type 0
Sayings = List (List ℕ × (List ℕ → Option Telling))

abbrev pub row_sayings : Sayings
row_sayings =
    (codes "row", λ rest. option_map (λ row. plain (reply.Found (Some row))) (table_row_of rest))
    ∷ (codes "error", λ rest. option_map (λ r. plain (reply.Refused r)) (refusal_named rest))
    ∷ (codes "rows", λ rest. option_map (λ found. rows found) (counted_of row_line_of rest))
    ∷ (codes "keys", λ rest. option_map (λ found. keys found) (counted_of key_line_of rest))
    ∷ []

-- of a vacuum
abbrev pub vacuum_sayings : Sayings
vacuum_sayings =
    (codes "heap", λ rest. option_map (λ p. plain (reply.Worked (piece.Heap p))) (number_of 4294967295 rest))
    ∷ (codes "index", λ rest. option_map (λ i. plain (reply.Worked (piece.Index i))) (number_of 255 rest))
    ∷ (codes "free", λ rest. option_map (λ p. plain (reply.Worked (piece.Free p))) (number_of 4294967295 rest))
    ∷ (codes "ended", λ rest. option_map (λ first. plain (reply.Ended first)) (number_of 4294967295 rest))
    ∷ []

-- what a first word says that is one of these, with the words behind it
abbrev pub saying_in : Sayings → List ℕ → List ℕ → Option Telling
saying_in [] word rest = None
saying_in (saying ∷ others) word rest = if bytes_eq word saying.0 then saying.1 rest else saying_in others word rest

-- replies that are always told in the same words
abbrev pub phrase_or : List ℕ → Option Telling → Option Telling
phrase_or text others = if bytes_eq text (codes "ok") then Some (plain reply.Done)
    else if bytes_eq text (codes "none") then Some (plain (reply.Found None))
    else if bytes_eq text (codes "committed") then Some (plain reply.Committed)
    else if bytes_eq text (codes "rolled back") then Some (plain reply.RolledBack)
    else if bytes_eq text (codes "end") then Some (plain reply.End)
    else others

-- what a text says
unfoldable pub told_of : List ℕ → Option Telling
told_of text = phrase_or text (cut text >>= λ parts. saying_in (row_sayings ++ vacuum_sayings) parts.0 parts.1)
