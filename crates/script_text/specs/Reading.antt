-- What the reader of a line gives, step by step.
use Rattle.std.specs.Prelude.{ℕ, ℤ, pos, negsuc, ◌+◌, ◌-◌, ◌*◌, ◌^◌, ◌==◌, ◌&&◌, ◌||◌, nat_lt, nat_le, Bool, true, false, List, [], ◌∷◌, ◌++◌, length, take, drop, slice_index, codes, Option, Some, None, map, position, if◌then◌else◌}
use Rattle.std.specs.Option.{option_map}
use Rattle.std.specs.Char.{is_ascii_digit}
use Rattle.std.specs.Str.{bytes_eq}
use Rattle.std.specs.List.{slice_split}
use Rattle.prune_actions.specs.declared.Action.{Action}
use Rattle.prune_actions.specs.declared.Action.TheVariants.{Unuse, Kill, Redirect}
use Rattle.calls.specs.Words.{RowToWrite, PlanToApply}
use Rattle.calls.specs.declared.settings.Settings.{Settings}
use Rattle.calls.specs.declared.step.Step.{Step}
use Rattle.calls.specs.declared.step.Step.TheVariants as step
use Rattle.calls.specs.declared.vacuum.Mode.TheVariants as mode
use Rattle.script_text.specs.declared.line.Line.{Line}
use Rattle.script_text.specs.declared.line.Line.TheVariants.{Do, VacuumFinish, Ids, Page, Entries}

infixl 10 ◌>>=◌
abbrev pub ◌>>=◌ : {A B : Type 0} → Option A → (A → Option B) → Option B
None >>= f = None
(Some x) >>= f = f x

-- what stands before the first byte that is x, and what stands behind it
abbrev pub cut_at : ℕ → List ℕ → Option (List ℕ × List ℕ)
cut_at x xs = option_map (λ i. (take i xs, drop (i + 1) xs)) (position (λ b. b == x) xs)

-- the word at the front, and what stands behind the space after it
abbrev pub cut : List ℕ → Option (List ℕ × List ℕ)
cut xs = cut_at 32 xs

-- the words of a text
abbrev pub words_of : List ℕ → List (List ℕ)
words_of xs = slice_split (λ b. b == 32) xs

-- the number of at most max that the digits write when they follow those of n
unfoldable pub digits_on : ℕ → ℕ → List ℕ → Option ℕ
digits_on max n [] = Some n
digits_on max n (c ∷ cs) = if is_ascii_digit c && nat_le (10 * n + (c - 48)) max then digits_on max (10 * n + (c - 48)) cs else None

-- a number of at most max: digits, and no zero in front of another digit
unfoldable pub number_of : ℕ → List ℕ → Option ℕ
number_of max w = if (length w == 0) || (nat_lt 1 (length w) && (slice_index w 0 == 48)) then None else digits_on max 0 w

-- a number, and what stands behind the space after it
unfoldable pub number_then : ℕ → List ℕ → Option (ℕ × List ℕ)
number_then max xs = do
  parts ← cut xs
  n ← number_of max parts.0
  Some (n, parts.1)

-- a number with its sign, below top and not below - top: a minus stands before a number other than 0
unfoldable pub signed_of : ℕ → List ℕ → Option ℤ
signed_of top w = if slice_index w 0 == 45
    then (number_of top (drop 1 w) >>= λ n. if n == 0 then None else Some (negsuc (n - 1)))
    else option_map (λ n. pos n) (number_of (top - 1) w)

unfoldable pub signed_then : ℕ → List ℕ → Option (ℤ × List ℕ)
signed_then top xs = do
  parts ← cut xs
  z ← signed_of top parts.0
  Some (z, parts.1)

-- a column has 64 bits, and a bound 128
abbrev pub column_of : List ℕ → Option ℤ
column_of w = signed_of (2 ^ 63) w

abbrev pub column_then : List ℕ → Option (ℤ × List ℕ)
column_then xs = signed_then (2 ^ 63) xs

abbrev pub bound_of : List ℕ → Option ℤ
bound_of w = signed_of (2 ^ 127) w

abbrev pub bound_then : List ℕ → Option (ℤ × List ℕ)
bound_then xs = signed_then (2 ^ 127) xs

-- the value of a lower case hexadecimal digit
unfoldable pub nibble_of : ℕ → Option ℕ
nibble_of c = if nat_le 48 c && nat_le c 57 then Some (c - 48) else if nat_le 97 c && nat_le c 102 then Some (c - 87) else None

-- a byte of two digits, before the bytes of the rest
abbrev pub pair_and : Option ℕ → Option ℕ → Option (List ℕ) → Option (List ℕ)
pair_and None low rest = None
pair_and (Some a) None rest = None
pair_and (Some a) (Some b) rest = option_map (λ bytes. (16 * a + b) ∷ bytes) rest

unfoldable pub pairs_of : List ℕ → Option (List ℕ)
pairs_of [] = Some []
pairs_of (h ∷ []) = None
pairs_of (h ∷ l ∷ rest) = pair_and (nibble_of h) (nibble_of l) (pairs_of rest)

unfoldable pub body_of : List ℕ → Option (List ℕ)
body_of [] = None
body_of (x ∷ xs) = if (x == 45) && (length xs == 0) then Some [] else pairs_of (x ∷ xs)

-- a session and a row
unfoldable pub row_words_of : List ℕ → Option (ℕ × RowToWrite)
row_words_of xs = do
  s ← number_then 255 xs
  k ← number_then (2 ^ 64 - 1) s.1
  c0 ← column_then k.1
  c1 ← column_then c0.1
  c2 ← column_then c1.1
  c3 ← column_then c2.1
  body ← body_of c3.1
  Some (s.0, record { key = k.0; cols = c0.0 ∷ c1.0 ∷ c2.0 ∷ c3.0 ∷ []; body = body })

-- a session and a key
unfoldable pub key_words_of : List ℕ → Option (ℕ × ℕ)
key_words_of xs = do
  s ← number_then 255 xs
  k ← number_of (2 ^ 64 - 1) s.1
  Some (s.0, k)

-- a session and how many rows
unfoldable pub count_words_of : List ℕ → Option (ℕ × ℕ)
count_words_of xs = do
  s ← number_then 255 xs
  n ← number_of 65535 s.1
  Some (s.0, n)

-- a session and a page
unfoldable pub page_words_of : List ℕ → Option (ℕ × ℕ)
page_words_of xs = do
  s ← number_then 255 xs
  p ← number_of 4294967295 s.1
  Some (s.0, p)

-- a session, an index and two bounds
unfoldable pub range_words_of : List ℕ → Option (ℕ × ℕ × ℤ × ℤ)
range_words_of xs = do
  s ← number_then 255 xs
  index ← number_then 255 s.1
  low ← bound_then index.1
  high ← bound_of low.1
  Some (s.0, index.0, low.0, high)

-- a session and two bounds
unfoldable pub bounds_words_of : List ℕ → Option (ℕ × ℤ × ℤ)
bounds_words_of xs = do
  s ← number_then 255 xs
  low ← bound_then s.1
  high ← bound_of low.1
  Some (s.0, low.0, high)

-- a slot, and that to which it is to lead
unfoldable pub redirect_of : List ℕ → Option (ℕ × Action)
redirect_of w = do
  slots ← cut_at 58 w
  n ← number_of 65535 slots.0
  k ← number_of 65535 slots.1
  Some (n, Redirect k)

-- what is done to a slot
unfoldable pub action_of : List ℕ → Option (ℕ × Action)
action_of w = if slice_index w 0 == 117 then option_map (λ n. (n, Unuse)) (number_of 65535 (drop 1 w))
    else if slice_index w 0 == 100 then option_map (λ n. (n, Kill)) (number_of 65535 (drop 1 w))
    else if slice_index w 0 == 114 then redirect_of (drop 1 w)
    else None

unfoldable pub actions_of : List (List ℕ) → Option (List (ℕ × Action))
actions_of [] = Some []
actions_of (word ∷ words) = do
  action ← action_of word
  actions ← actions_of words
  Some (action ∷ actions)

-- a change number, and what is done to slots
unfoldable pub plan_of : List (List ℕ) → Option PlanToApply
plan_of [] = None
plan_of (word ∷ words) = do
  change ← number_of (2 ^ 64 - 1) word
  actions ← actions_of words
  Some (record { change = change; actions = actions })

-- a page and a plan
unfoldable pub plan_words_of : List ℕ → Option (ℕ × PlanToApply)
plan_words_of xs = do
  p ← number_then 4294967295 xs
  plan ← plan_of (words_of p.1)
  Some (p.0, plan)

-- a digit for each of the four columns
unfoldable pub flag_of : ℕ → Option Bool
flag_of c = if c == 48 then Some false else if c == 49 then Some true else None

unfoldable pub flags4_of : List ℕ → Option (List Bool)
flags4_of w = if length w == 4 then (do
  a ← flag_of (slice_index w 0)
  b ← flag_of (slice_index w 1)
  c ← flag_of (slice_index w 2)
  d ← flag_of (slice_index w 3)
  Some (a ∷ b ∷ c ∷ d ∷ [])) else None

unfoldable pub heading_of : List ℕ → Option Settings
heading_of xs = do
  pages ← number_then 4294967295 xs
  stop ← number_then 4294967295 pages.1
  min ← number_then 4294967295 stop.1
  first ← number_then 4294967295 min.1
  dead ← number_then 4294967295 first.1
  flags ← flags4_of dead.1
  Some (record { max_pages = pages.0; stop_age = stop.0; freeze_min_age = min.0; first_xid = first.0; dead_limit = dead.0; indexed = flags })

unfoldable pub settings_at : List ℕ → Option Settings
settings_at line = cut line >>= λ parts. if bytes_eq parts.0 (codes "heap") then heading_of parts.1 else None

-- what a line that begins with `vacuum` asks for by the words behind it
abbrev pub vacuum_line_of : List ℕ → Option Line
vacuum_line_of words = if bytes_eq words (codes "step") then Some (Do step.VacuumStep)
    else if bytes_eq words (codes "finish") then Some VacuumFinish
    else if bytes_eq words (codes "begin normal") then Some (Do (step.VacuumBegin mode.Normal))
    else if bytes_eq words (codes "begin aggressive") then Some (Do (step.VacuumBegin mode.Aggressive))
    else if bytes_eq words (codes "cancel") then Some (Do step.VacuumCancel)
    else None

-- verbs, the first words of lines with several words: each is spelled so, and asks for this with the words behind it
abbrev pub Verbs : Type 0
Verbs = List (List ℕ × (List ℕ → Option Line))

-- those of rows and plans, which are put in new memory
abbrev pub written_verbs : Verbs
written_verbs =
    (codes "insert", λ rest. option_map (λ p. Do (step.Insert p.0 p.1)) (row_words_of rest))
    ∷ (codes "update", λ rest. option_map (λ p. Do (step.Update p.0 p.1)) (row_words_of rest))
    ∷ (codes "apply", λ rest. option_map (λ p. Do (step.ApplyPlan p.0 p.1)) (plan_words_of rest))
    ∷ []

-- verbs of steps with one number below 256, that of a session or of a column
abbrev pub NumberedVerbs : Type 0
NumberedVerbs = List (List ℕ × (ℕ → Step))

abbrev pub numbered_steps : NumberedVerbs
numbered_steps =
    (codes "begin", λ s. step.Begin s)
    ∷ (codes "beginrc", λ s. step.BeginReadCommitted s)
    ∷ (codes "commit", λ s. step.Commit s)
    ∷ (codes "abort", λ s. step.Abort s)
    ∷ (codes "savepoint", λ s. step.Savepoint s)
    ∷ (codes "rollbackto", λ s. step.RollbackTo s)
    ∷ (codes "release", λ s. step.Release s)
    ∷ (codes "openheap", λ s. step.OpenHeap s)
    ∷ (codes "close", λ s. step.Close s)
    ∷ (codes "createindex", λ c. step.CreateIndex c)
    ∷ []

-- these as the verbs of lines
abbrev pub as_verbs : NumberedVerbs → Verbs
as_verbs verbs = map (λ verb. (verb.0, λ rest. option_map (λ n. Do (verb.1 n)) (number_of 255 rest))) verbs

-- verbs of all other lines
abbrev pub other_verbs : Verbs
other_verbs =
    (codes "get", λ rest. option_map (λ p. Do (step.Get p.0 p.1)) (key_words_of rest))
    ∷ (codes "delete", λ rest. option_map (λ p. Do (step.Delete p.0 p.1)) (key_words_of rest))
    ∷ (codes "next", λ rest. option_map (λ p. Do (step.Next p.0 p.1)) (count_words_of rest))
    ∷ (codes "openindex", λ rest. option_map (λ p. Do (step.OpenIndex p.0 p.1 p.2 p.3)) (range_words_of rest))
    ∷ (codes "openkeys", λ rest. option_map (λ p. Do (step.OpenKeys p.0 p.1 p.2)) (bounds_words_of rest))
    ∷ (codes "takepage", λ rest. option_map (λ p. Do (step.TakePage p.0 p.1)) (page_words_of rest))
    ∷ (codes "prune", λ rest. option_map (λ p. Do (step.Prune p)) (number_of 4294967295 rest))
    ∷ (codes "vacuum", vacuum_line_of)
    ∷ (codes "page", λ rest. option_map (λ p. Page p) (number_of 4294967295 rest))
    ∷ (codes "entries", λ rest. option_map (λ i. Entries i) (number_of 255 rest))
    ∷ []

abbrev pub all_verbs : Verbs
all_verbs = written_verbs ++ (as_verbs numbered_steps ++ other_verbs)

-- what a word asks for that is one of these verbs, with the words behind it
abbrev pub line_in : Verbs → List ℕ → List ℕ → Option Line
line_in [] word rest = None
line_in (verb ∷ verbs) word rest = if bytes_eq word verb.0 then verb.1 rest else line_in verbs word rest

-- what a line asks for
unfoldable pub line_at : List ℕ → Option Line
line_at line = if bytes_eq line (codes "ids") then Some Ids else (cut line >>= λ parts. line_in all_verbs parts.0 parts.1)
