-- The lines of a script. Each value has one spelling, so a line is allowed just where it is the spelling of a value in range.
use Rattle.std.specs.Prelude.{◌≡◌, ℕ, ℤ, ◌/◌, ◌%◌, ◌^◌, ◌<◌, ◌≤◌, List, [], ◌∷◌, ◌++◌, length, codes, Bool, false, if◌then◌else◌, FitsSigned, Option, Some, None}
use Rattle.std.specs.Int.{w64, w128}
use Rattle.std.specs.List.{flat_map, AllByRecursion}
use Rattle.std.specs.Fmt.{decimal, signed_decimal, digit_glyph}
use Rattle.prune_actions.specs.declared.Action.{Action}
use Rattle.prune_actions.specs.declared.Action.TheVariants.{Unuse, Kill, Redirect}
use Rattle.calls.specs.Words.{RowToWrite, PlanToApply}
use Rattle.calls.specs.declared.settings.Settings.{Settings}
use Rattle.calls.specs.declared.step.Step.{Step}
use Rattle.calls.specs.declared.step.Step.TheVariants as step
use Rattle.calls.specs.declared.vacuum.Mode.{Mode}
use Rattle.calls.specs.declared.vacuum.Mode.TheVariants as mode
use Rattle.script_text.specs.declared.line.Line.{Line}
use Rattle.script_text.specs.declared.line.Line.TheVariants.{Do, VacuumFinish, Ids, Page, Entries}
use Rattle.script_text.specs.declared.line.TheConstants.{MOST_LINE_BYTES}

-- a space, and then a word: one space separates words
abbrev pub spaced : List ℕ → List ℕ
spaced word = 32 ∷ word

-- a line and its line feed
abbrev pub with_feed : List ℕ → List ℕ
with_feed text = text ++ 10 ∷ []

-- two lower case hexadecimal digits for each byte
abbrev pub hex_text : List ℕ → List ℕ
hex_text bytes = flat_map (λ b. digit_glyph false (b / 16) ∷ digit_glyph false (b % 16) ∷ []) bytes

-- a body in hexadecimal digits, or a minus where it is empty
abbrev pub body_text : List ℕ → List ℕ
body_text [] = 45 ∷ []
body_text (b ∷ bs) = hex_text (b ∷ bs)

-- a row: its key, its columns and its body
abbrev pub row_text : ℕ → List ℤ → List ℕ → List ℕ
row_text k cols body = decimal k ++ (flat_map (λ c. spaced (signed_decimal c)) cols ++ spaced (body_text body))

-- a session, and a key, how many rows or a page
abbrev pub key_words : ℕ → ℕ → List ℕ
key_words s k = decimal s ++ spaced (decimal k)

-- a session, an index and two bounds
abbrev pub range_words : ℕ → ℕ → ℤ → ℤ → List ℕ
range_words s index low high = decimal s ++ spaced (decimal index ++ spaced (signed_decimal low ++ spaced (signed_decimal high)))

-- a session and two bounds
abbrev pub bounds_words : ℕ → ℤ → ℤ → List ℕ
bounds_words s low high = decimal s ++ spaced (signed_decimal low ++ spaced (signed_decimal high))

-- a session and a row
abbrev pub row_words : ℕ → RowToWrite → List ℕ
row_words s row = decimal s ++ spaced (row_text row.key row.cols row.body)

-- what is done to a slot: `u2` makes it unused, `d2` dead, and `r1:3` has slot 1 lead to slot 3
abbrev pub action_text : ℕ × Action → List ℕ
action_text (n, Unuse) = codes "u" ++ decimal n
action_text (n, Kill) = codes "d" ++ decimal n
action_text (n, Redirect k) = codes "r" ++ (decimal n ++ (codes ":" ++ decimal k))

-- what is done to slots, in their order, each behind a space
abbrev pub actions_text : List (ℕ × Action) → List ℕ
actions_text actions = flat_map (λ a. spaced (action_text a)) actions

-- a page, and a plan of what is done to its slots
abbrev pub plan_words : ℕ → PlanToApply → List ℕ
plan_words p plan = decimal p ++ spaced (decimal plan.change ++ actions_text plan.actions)

-- a digit for a column: 1 where it has an index
abbrev pub flag_text : Bool → List ℕ
flag_text b = (if b then 49 else 48) ∷ []

-- the first line: `heap PAGES STOP MIN FIRST DEAD COLS`
abbrev pub heading : Settings → List ℕ
heading s = codes "heap" ++ spaced (decimal s.max_pages ++ spaced (decimal s.stop_age ++ spaced (decimal s.freeze_min_age
    ++ spaced (decimal s.first_xid ++ spaced (decimal s.dead_limit ++ spaced (flat_map flag_text s.indexed))))))

-- each number of the settings has 32 bits, and there are four columns
pub record SettingsFit (s : Settings) : Type 0 where
  pub max_pages : s.max_pages < 2 ^ 32
  pub stop_age : s.stop_age < 2 ^ 32
  pub freeze_min_age : s.freeze_min_age < 2 ^ 32
  pub first_xid : s.first_xid < 2 ^ 32
  pub dead_limit : s.dead_limit < 2 ^ 32
  pub indexed : length s.indexed ≡ 4

-- what a text spells as a first line: these settings, or none
abbrev pub SpellsSettings : List ℕ → Option Settings → Type 0
SpellsSettings text (Some s) = SettingsFit s × (text ≡ heading s)
SpellsSettings text None = (s : Settings) → SettingsFit s → text ≡ heading s → ⊥

-- which pages a vacuum passes over
abbrev pub mode_text : Mode → List ℕ
mode_text mode.Normal = codes "normal"
mode_text mode.Aggressive = codes "aggressive"

-- a line that asks for a step
abbrev pub step_text : Step → List ℕ
step_text (step.Begin s) = codes "begin" ++ spaced (decimal s)
step_text (step.BeginReadCommitted s) = codes "beginrc" ++ spaced (decimal s)
step_text (step.Get s k) = codes "get" ++ spaced (key_words s k)
step_text (step.Insert s row) = codes "insert" ++ spaced (row_words s row)
step_text (step.Update s row) = codes "update" ++ spaced (row_words s row)
step_text (step.Delete s k) = codes "delete" ++ spaced (key_words s k)
step_text (step.Savepoint s) = codes "savepoint" ++ spaced (decimal s)
step_text (step.RollbackTo s) = codes "rollbackto" ++ spaced (decimal s)
step_text (step.Release s) = codes "release" ++ spaced (decimal s)
step_text (step.Commit s) = codes "commit" ++ spaced (decimal s)
step_text (step.Abort s) = codes "abort" ++ spaced (decimal s)
step_text (step.OpenIndex s index low high) = codes "openindex" ++ spaced (range_words s index low high)
step_text (step.OpenHeap s) = codes "openheap" ++ spaced (decimal s)
step_text (step.OpenKeys s low high) = codes "openkeys" ++ spaced (bounds_words s low high)
step_text (step.Next s n) = codes "next" ++ spaced (key_words s n)
step_text (step.Close s) = codes "close" ++ spaced (decimal s)
step_text (step.TakePage s p) = codes "takepage" ++ spaced (key_words s p)
step_text (step.Prune p) = codes "prune" ++ spaced (decimal p)
step_text (step.ApplyPlan p plan) = codes "apply" ++ spaced (plan_words p plan)
step_text (step.VacuumBegin mode) = codes "vacuum begin" ++ spaced (mode_text mode)
step_text step.VacuumStep = codes "vacuum step"
step_text step.VacuumCancel = codes "vacuum cancel"
step_text (step.CreateIndex c) = codes "createindex" ++ spaced (decimal c)

-- any line but the first
abbrev pub spelling : Line → List ℕ
spelling (Do step) = step_text step
spelling VacuumFinish = codes "vacuum finish"
spelling Ids = codes "ids"
spelling (Page p) = codes "page" ++ spaced (decimal p)
spelling (Entries i) = codes "entries" ++ spaced (decimal i)

-- a session's number has 8 bits, and a key 64
abbrev pub KeyFits : ℕ → ℕ → Type 0
KeyFits s k = (s < 2 ^ 8) × (k < 2 ^ 64)

-- a row has four columns of 64 bits with their signs, and a body of bytes
abbrev pub RowFits : ℕ → RowToWrite → Type 0
RowFits s row = (s < 2 ^ 8) × (row.key < 2 ^ 64) × (length row.cols ≡ 4) × AllByRecursion (λ c. FitsSigned w64 c) row.cols
    × AllByRecursion (λ b. b < 2 ^ 8) row.body

-- an index's number has 8 bits, and bounds have 128 with their signs
abbrev pub RangeFits : ℕ → ℕ → ℤ → ℤ → Type 0
RangeFits s index low high = (s < 2 ^ 8) × (index < 2 ^ 8) × FitsSigned w128 low × FitsSigned w128 high

-- a session's number has 8 bits, and bounds have 128 with their signs
abbrev pub BoundsFit : ℕ → ℤ → ℤ → Type 0
BoundsFit s low high = (s < 2 ^ 8) × FitsSigned w128 low × FitsSigned w128 high

-- a slot's number has 16 bits
abbrev pub ActionFits : ℕ × Action → Type 0
ActionFits (n, Redirect k) = (n < 2 ^ 16) × (k < 2 ^ 16)
ActionFits (n, other) = n < 2 ^ 16

-- a page's number has 32 bits, and a change number 64
abbrev pub PlanFits : ℕ → PlanToApply → Type 0
PlanFits p plan = (p < 2 ^ 32) × (plan.change < 2 ^ 64) × AllByRecursion ActionFits plan.actions

-- each number of a step is in the range of its type; a count of rows has 16 bits, and a page's number 32
abbrev pub StepFits : Step → Type 0
StepFits (step.Begin s) = s < 2 ^ 8
StepFits (step.BeginReadCommitted s) = s < 2 ^ 8
StepFits (step.Get s k) = KeyFits s k
StepFits (step.Insert s row) = RowFits s row
StepFits (step.Update s row) = RowFits s row
StepFits (step.Delete s k) = KeyFits s k
StepFits (step.Savepoint s) = s < 2 ^ 8
StepFits (step.RollbackTo s) = s < 2 ^ 8
StepFits (step.Release s) = s < 2 ^ 8
StepFits (step.Commit s) = s < 2 ^ 8
StepFits (step.Abort s) = s < 2 ^ 8
StepFits (step.OpenIndex s index low high) = RangeFits s index low high
StepFits (step.OpenHeap s) = s < 2 ^ 8
StepFits (step.OpenKeys s low high) = BoundsFit s low high
StepFits (step.Next s n) = (s < 2 ^ 8) × (n < 2 ^ 16)
StepFits (step.Close s) = s < 2 ^ 8
StepFits (step.TakePage s p) = (s < 2 ^ 8) × (p < 2 ^ 32)
StepFits (step.Prune p) = p < 2 ^ 32
StepFits (step.ApplyPlan p plan) = PlanFits p plan
StepFits (step.VacuumBegin mode) = Unit {0}
StepFits step.VacuumStep = Unit {0}
StepFits step.VacuumCancel = Unit {0}
StepFits (step.CreateIndex c) = c < 2 ^ 8

-- and each number of a line
abbrev pub LineFits : Line → Type 0
LineFits (Do step) = StepFits step
LineFits VacuumFinish = Unit {0}
LineFits Ids = Unit {0}
LineFits (Page p) = p < 2 ^ 32
LineFits (Entries i) = i < 2 ^ 8

-- what a text spells: this line, whose numbers are in range, or none
abbrev pub Spells : List ℕ → Option Line → Type 0
Spells text (Some line) = LineFits line × (text ≡ spelling line)
Spells text None = (line : Line) → LineFits line → text ≡ spelling line → ⊥

-- what a line may spell: values in range, in at most 4096 bytes
pub record IsAllowed (l : Line) : Type 0 where
  pub fits : LineFits l
  pub short : length (spelling l) ≤ MOST_LINE_BYTES
