-- Why an answer is wrong, in words: the rule, what is due, and what shows it.
use Rattle.std.specs.Prelude.{◌≡◌, ◌≢◌, ℕ, ◌+◌, List, [], ◌++◌, codes, Option, Some, None, MatchOption}
use Rattle.std.specs.Fmt.{decimal}
use Rattle.history.specs.History.{IsLate}
use Rattle.history.specs.World.{World, Holds, start_now}
use Rattle.calls.specs.declared.step.Step.{Step}
use Rattle.calls.specs.declared.step.Step.TheVariants as step
use Rattle.script_text.specs.Grammar.{with_feed}
use Rattle.script_text.specs.Answers.{reply_text}
use Rattle.judge.specs.declared.due.Due.{Due}
use Rattle.judge.specs.declared.due.Due.TheVariants.{Alone, Or, Open}
use Rattle.judge.specs.declared.why.Rule.{Rule}
use Rattle.judge.specs.declared.why.Rule.TheVariants as rule
use Rattle.judge.specs.declared.why.Why.{Why}
use Rattle.transcript.specs.declared.showing.Shown.{Shown}

-- a rule in words
abbrev pub rule_words : Rule → List ℕ
rule_words rule.OrderOfTests = codes "order of tests"
rule_words rule.OneSnapshot = codes "one snapshot"
rule_words rule.Statement = codes "statement"
rule_words rule.OwnWrites = codes "own writes"
rule_words rule.ViewOfAWrite = codes "view of a write"
rule_words rule.FirstCommitterWins = codes "first committer wins"
rule_words rule.OneWriter = codes "one writer"
rule_words rule.Ring = codes "ring"
rule_words rule.Cursor = codes "cursor"
rule_words rule.Savepoint = codes "savepoint"
rule_words rule.Commit = codes "commit"
rule_words rule.Index = codes "index"
rule_words rule.Vacuum = codes "vacuum"
rule_words rule.NoRefusal = codes "no refusal"

-- what may be answered: this alone; this, or a refusal that is left open; or more than one answer
abbrev pub due_text : Due → List ℕ
due_text (Alone answer) = codes "due " ++ with_feed (reply_text answer)
due_text (Or answer) = codes "allowed " ++ with_feed (reply_text answer)
due_text Open = codes "allowed more than one answer\n"

abbrev pub why_text : Why → List ℕ
why_text why = due_text why.due ++ (codes "rule " ++ with_feed (rule_words why.rule))

-- the session and the key that a step names
abbrev pub session_and_key : Step → Option (ℕ × ℕ)
session_and_key (step.Get s key) = Some (s, key)
session_and_key (step.Insert s row) = Some (s, row.key)
session_and_key (step.Update s row) = Some (s, row.key)
session_and_key (step.Delete s key) = Some (s, key)
session_and_key step = None

-- the place of the last transaction that wrote the key, if one did
abbrev pub IsLastWriter : World → ℕ → Option ℕ → Type 0
IsLastWriter w key writer = MatchOption writer (¬ IsLate w.history 0 key) (λ n. IsLate w.history n key × (¬ IsLate w.history (n + 1) key))

-- another open session that has written it, if one has
abbrev pub IsOtherHolder : World → (s key : ℕ) → Option ℕ → Type 0
IsOtherHolder w s key holder = MatchOption holder ((o : ℕ) → o ≢ s → ¬ Holds w o key) (λ o. (o ≢ s) × Holds w o key)

-- What is shown of a step that names a key, if its session is open. It is how many transactions had committed when the session's
-- snapshot was taken, who wrote the key last, and who holds it.
pub record IsShownOf (w : World) (s key : ℕ) (shown : Shown) : Type 0 where
  pub session : shown.session ≡ s
  pub key_is : shown.key ≡ key
  pub reads : MatchOption (w.session s) ⊥ (λ m. shown.reads ≡ start_now w.history m)
  pub writer : IsLastWriter w key shown.writer
  pub holder : IsOtherHolder w s key shown.holder

abbrev pub ShowsWhy : World → Step → Option Shown → Type 0
ShowsWhy w step None = MatchOption (session_and_key step) (Unit {0}) (λ p. w.session p.0 ≡ None)
ShowsWhy w step (Some shown) = MatchOption (session_and_key step) ⊥ (λ p. IsShownOf w p.0 p.1 shown)

-- commits are counted from 0
unfoldable pub commit_text : (n key : ℕ) → List ℕ
commit_text n key = codes "; commit " ++ (decimal n ++ (codes " wrote key " ++ (decimal key ++ codes " last")))

abbrev pub writer_text : (key : ℕ) → Option ℕ → List ℕ
writer_text key None = codes "; no commit wrote key " ++ decimal key
writer_text key (Some n) = commit_text n key

abbrev pub other_holder_text : Option ℕ → List ℕ
other_holder_text None = codes "\n"
other_holder_text (Some o) = codes "; session " ++ (decimal o ++ codes " holds it\n")

unfoldable pub reads_text : (s reads : ℕ) → List ℕ
reads_text s reads = codes "shown session " ++ (decimal s ++ (codes " reads commits below " ++ decimal reads))

abbrev pub shown_line : Option Shown → List ℕ
shown_line None = []
shown_line (Some shown) = reads_text shown.session shown.reads ++ (writer_text shown.key shown.writer ++ other_holder_text shown.holder)
