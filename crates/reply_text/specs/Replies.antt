-- Which texts spell a reply. Each reply has one spelling (`script_text`), so a text spells one reply or none.
use Rattle.std.specs.Prelude.{◌≡◌, ℕ, ◌^◌, ◌<◌, ◌≤◌, List, length, FitsSigned, Option, Some, None}
use Rattle.std.specs.Int.{w64}
use Rattle.std.specs.List.{AllByRecursion}
use Rattle.tuple_header.specs.declared.version.Row.{Row}
use Rattle.tuple_header.specs.declared.version.TheConstants.{MOST_BODY}
use Rattle.calls.specs.declared.reply.Refusal.{Refusal}
use Rattle.calls.specs.declared.reply.Refusal.TheVariants as refusal
use Rattle.calls.specs.declared.reply.Reply.{Reply}
use Rattle.calls.specs.declared.reply.Reply.TheVariants as reply
use Rattle.calls.specs.declared.vacuum.Piece.{Piece}
use Rattle.calls.specs.declared.vacuum.Piece.TheVariants as piece
use Rattle.calls.specs.declared.step.Step.{Step}
use Rattle.script_text.specs.Answers.{reply_text}
use Rattle.script_text.specs.Grammar.{StepFits, step_text}

-- a row of the table has a key of 64 bits, four columns of 64 bits with their signs, and at most 1024 bytes
pub record TableRowFits (row : Row) : Type 0 where
  pub key : row.key < 2 ^ 64
  pub columns : length row.cols ≡ 4
  pub signed : AllByRecursion (λ c. FitsSigned w64 c) row.cols
  pub bytes : AllByRecursion (λ b. b < 2 ^ 8) row.body.items
  pub short : length row.body.items ≤ MOST_BODY

-- a page's number has 32 bits, and an index's 8
abbrev pub PieceFits : Piece → Type 0
PieceFits (piece.Heap p) = p < 2 ^ 32
PieceFits (piece.Index i) = i < 2 ^ 8
PieceFits (piece.Free p) = p < 2 ^ 32

-- a session's number has 8 bits
abbrev pub RefusalFits : Refusal → Type 0
RefusalFits (refusal.Busy s) = s < 2 ^ 8
RefusalFits refusal = Unit {0}

-- so many as a number of 64 bits can tell, and each fits
pub record AllFit {A : Type 0} (Fits : A → Type 0) (xs : List A) : Type 0 where
  pub each : AllByRecursion Fits xs
  pub few : length xs < 2 ^ 64

-- each number of a reply is in the range of its type
abbrev pub ReplyFits : Reply → Type 0
ReplyFits (reply.Found (Some row)) = TableRowFits row
ReplyFits (reply.Rows rows) = AllFit (λ row. TableRowFits row) rows.items
ReplyFits (reply.Keys keys) = AllFit (λ key. key < 2 ^ 64) keys.items
ReplyFits (reply.Worked piece) = PieceFits piece
ReplyFits (reply.Ended first) = first < 2 ^ 32
ReplyFits (reply.Refused r) = RefusalFits r
ReplyFits reply = Unit {0}

-- what a text spells: this reply, whose numbers are in range, or none
abbrev pub SpellsReply : List ℕ → Option Reply → Type 0
SpellsReply text (Some reply) = ReplyFits reply × (text ≡ reply_text reply)
SpellsReply text None = (reply : Reply) → ReplyFits reply → text ≡ reply_text reply → ⊥

-- and the same of a step
abbrev pub SpellsStep : List ℕ → Option Step → Type 0
SpellsStep text (Some step) = StepFits step × (text ≡ step_text step)
SpellsStep text None = (step : Step) → StepFits step → text ≡ step_text step → ⊥
