-- Transcripts: lines that were asked, with their answers, and what is said of them.
use Rattle.std.specs.Prelude.{◌≡◌, ℕ, ◌+◌, ◌^◌, ◌<◌, ◌==◌, ◌&&◌, ◌||◌, ◌⊎◌, Bool, true, false, List, [], ◌∷◌, ◌++◌, length, codes, slice_index, position, Option, Some, None, Result, Ok, Err}
use Rattle.std.specs.List.{flat_map, AllByRecursion, count_by}
use Rattle.std.specs.Str.{bytes_eq}
use Rattle.std.specs.Fmt.{decimal}
use Rattle.std.specs.Io.KnownBytes.{Appends, Keeps}
use Rattle.history.specs.World.{World, beginning}
use Rattle.calls.specs.Words.{AreSettings}
use Rattle.calls.specs.declared.settings.Settings.{Settings}
use Rattle.calls.specs.declared.step.Step.{Step}
use Rattle.calls.specs.declared.step.Step.TheVariants as step
use Rattle.calls.specs.declared.reply.Reply.{Reply}
use Rattle.calls.specs.declared.reply.Reply.TheVariants as reply
use Rattle.calls.specs.declared.reply.Refusal.TheVariants as refusal
use Rattle.refinement.specs.Allowed.{AllowsReply, IsRun, after}
use Rattle.script_text.specs.Grammar.{SettingsFit, Spells, heading, with_feed}
use Rattle.script_text.specs.Reading.{cut}
use Rattle.script_text.specs.declared.line.Line.{Line}
use Rattle.script_text.specs.declared.line.Line.TheVariants.{Do, VacuumFinish}
use Rattle.one_answer.specs.OneAnswer.{IsLeftOpen}
use Rattle.judge.specs.declared.due.Due.{Due}
use Rattle.judge.specs.declared.due.Due.TheVariants.{Alone, Or, Open}
use Rattle.judge.specs.declared.why.Why.{Why}
use Rattle.judge.specs.Reasons.{Breaks, TellsDue}
use Rattle.reply_text.specs.Replies.{SpellsReply}
use Rattle.transcript.specs.Showing.{ShowsWhy, shown_line, why_text}
use Rattle.transcript.specs.declared.showing.Shown.{Shown}
use Rattle.transcript.specs.declared.begins.Begins.{Begins}
use Rattle.transcript.specs.declared.begins.Begins.TheVariants.{ByStatement, BySnapshot}
use Rattle.transcript.specs.declared.begins.Until.{Until}
use Rattle.transcript.specs.declared.begins.Until.TheVariants.{FirstWrong, End}
use Rattle.transcript.specs.declared.fault.Fault.{Fault}
use Rattle.transcript.specs.declared.fault.Fault.TheVariants.{BadLine, Input, Output, NoMemory}
use Rattle.transcript.specs.Failures.{WritesFront}

-- which step is judged: a session may be judged as if it had begun by statement, or by snapshot
abbrev pub judged_as : Begins → Step → Step
judged_as ByStatement (step.Begin s) = step.BeginReadCommitted s
judged_as BySnapshot (step.BeginReadCommitted s) = step.Begin s
judged_as begins step = step

-- the step of a line; who finishes a vacuum is told what its last step did
abbrev pub step_of_line : Line → Option Step
step_of_line (Do step) = Some step
step_of_line VacuumFinish = Some step.VacuumStep
step_of_line look = None

abbrev pub AsksFor : List ℕ → Step → Type 0
AsksFor asked step = (line : Line) × Spells asked (Some line) × (step_of_line line ≡ Some step)

-- a line of `heapview`, told by its first word
abbrev pub is_view_word : List ℕ → Bool
is_view_word word = bytes_eq word (codes "explain") || bytes_eq word (codes "session") || bytes_eq word (codes "fate") || bytes_eq word (codes "plan")

abbrev pub begins_as_view : Option (List ℕ × List ℕ) → Bool
begins_as_view None = false
begins_as_view (Some parts) = is_view_word parts.0

abbrev pub is_view : List ℕ → Bool
is_view asked = bytes_eq asked (codes "horizon") || bytes_eq asked (codes "vacuum") || begins_as_view (cut asked)

-- a line that shows something and is no step: nothing is judged
abbrev pub IsLook : List ℕ → Type 0
IsLook asked = ((line : Line) × Spells asked (Some line) × (step_of_line line ≡ None)) ⊎ (Spells asked None × (is_view asked ≡ true))

-- a reply that the answer may stand for: the one that it spells; or, where it is Busy and names nobody, Busy by whichever session
abbrev pub MayBe : List ℕ → Reply → Type 0
MayBe answer r = SpellsReply answer (Some r)
    ⊎ ((answer ≡ codes "error 7 Busy") × (s : ℕ) × (s < 2 ^ 8) × (r ≡ reply.Refused (refusal.Busy s)))

-- A line that was asked and its answer, and what the history goes on by. That is a step with its reply, or with one that could be
-- given in the place of a wrong one. Or it is nothing.
pub record Exchange : Type 0 where
  pub asked : List ℕ
  pub answer : List ℕ
  pub judged : Option (Step × Reply)

-- a prompt and the line, and the lines of the answer
abbrev pub exchange_text : (asked answer : List ℕ) → List ℕ
exchange_text asked answer = codes "> " ++ (with_feed asked ++ with_feed answer)

-- a prompt stands at the front
abbrev pub is_prompted : List ℕ → Bool
is_prompted text = (slice_index text 0 == slice_index (codes "> ") 0) && (slice_index text 1 == slice_index (codes "> ") 1)

-- the next exchange is at the front, or nothing
abbrev pub is_next_or_end : List ℕ → Bool
is_next_or_end text = (length text == 0) || is_prompted text

-- no line of the answer, but perhaps its first, begins with a prompt: there the next exchange would begin
abbrev pub IsOneAnswer : List ℕ → Type 0
IsOneAnswer answer = (front back : List ℕ) → answer ≡ front ++ 10 ∷ back → is_prompted back ≡ true → ⊥

-- the text of exchanges
abbrev pub exchanges_text : List Exchange → List ℕ
exchanges_text xs = flat_map (λ (x : Exchange). exchange_text x.asked x.answer) xs

abbrev pub IsJudged : Begins → List ℕ → List ℕ → Option (Step × Reply) → Type 0
IsJudged begins asked answer None = IsLook asked
IsJudged begins asked answer (Some (step, reply)) = ((own : Step) × AsksFor asked own × (step ≡ judged_as begins own)) × MayBe answer reply

pub record IsExchange (begins : Begins) (x : Exchange) : Type 0 where
  pub one_line : position (λ b. b == 10) x.asked ≡ None
  pub one_answer : IsOneAnswer x.answer
  pub judged : IsJudged begins x.asked x.answer x.judged

abbrev pub step_said : Option (Step × Reply) → List Step
step_said None = []
step_said (Some (step, reply)) = step ∷ []

abbrev pub reply_said : Option (Step × Reply) → List Reply
reply_said None = []
reply_said (Some (step, reply)) = reply ∷ []

-- the steps that are judged, and their replies
abbrev pub step_judged : Exchange → List Step
step_judged x = step_said x.judged

abbrev pub reply_judged : Exchange → List Reply
reply_judged x = reply_said x.judged

abbrev pub steps_judged : List Exchange → List Step
steps_judged xs = flat_map step_judged xs

abbrev pub replies_judged : List Exchange → List Reply
replies_judged xs = flat_map reply_judged xs

-- the first line, and the exchanges behind it
abbrev pub transcript_text : Settings → List Exchange → List ℕ
transcript_text s xs = with_feed (heading s) ++ exchanges_text xs

-- A first line in range, and exchanges behind it. Their steps and replies are a run of the history from the beginning in which
-- the first line's columns are indexed.
pub record AreAllowed (begins : Begins) (s : Settings) (xs : List Exchange) : Type 0 where
  pub in_range : AreSettings s
  pub fits : SettingsFit s
  pub each : AllByRecursion (λ x. IsExchange begins x) xs
  pub run : IsRun (beginning s.indexed) (steps_judged xs) (replies_judged xs)

-- the world after them
abbrev pub world_after : Settings → List Exchange → World
world_after s xs = after (beginning s.indexed) (steps_judged xs) (replies_judged xs)

-- An answer to a step, and none of the replies that it may stand for is allowed. Why: one of them breaks this rule, this is due, and
-- that is shown of the history
pub record IsWrong (begins : Begins) (w : World) (asked answer : List ℕ) (why : Why) (shown : Option Shown) : Type 0 where
  pub one_line : position (λ b. b == 10) asked ≡ None
  pub one_answer : IsOneAnswer answer
  pub own : Step
  pub asks : AsksFor asked own
  pub reply : Reply
  pub some : MayBe answer reply
  pub never : (reply : Reply) → MayBe answer reply → ¬ AllowsReply w (judged_as begins own) reply
  pub rule : Breaks why.rule w (judged_as begins own) reply
  pub due : TellsDue w (judged_as begins own) why.due
  pub shows : ShowsWhy w (judged_as begins own) shown

-- how many lines end in a text
abbrev pub line_ends : List ℕ → ℕ
line_ends text = count_by (λ b. b == 10) text

-- what is said where all is allowed, with how many steps were judged, and how many answers were refusals that are left open
abbrev pub allowed_text : (allowed open_ : ℕ) → List ℕ
allowed_text n open_ = codes "allowed " ++ (decimal n ++ (codes ", left open " ++ with_feed (decimal open_)))

-- what is said of an answer that is not allowed, at the line of this number
abbrev pub wrong_text : ℕ → (asked answer : List ℕ) → Why → Option Shown → List ℕ
wrong_text n asked answer why shown =
    codes "line " ++ (decimal n ++ (codes ": " ++ (with_feed asked ++ (codes "answered " ++ (with_feed answer ++ (why_text why ++ shown_line shown))))))

-- what is said at the end, where some are not
abbrev pub end_text : (wrong allowed open_ : ℕ) → List ℕ
end_text wrong n open_ = codes "wrong " ++ (decimal wrong ++ (codes ", " ++ allowed_text n open_))

-- the reply is a refusal that is left open
abbrev pub IsLetOff : World → Step → Reply → Type 0
IsLetOff w step (reply.Refused refusal) = IsLeftOpen w step (reply.Refused refusal)
IsLetOff w step reply = ⊥

abbrev pub CountsLetOff : World → Step → Reply → ℕ → Type 0
CountsLetOff w step reply n = (IsLetOff w step reply × (n ≡ 1)) ⊎ ((¬ IsLetOff w step reply) × (n ≡ 0))

-- an exchange whose answer is allowed: how many steps were judged in it, and how many were let off
abbrev pub IsAllowedExchange : World → Option (Step × Reply) → (judged open_ : ℕ) → Type 0
IsAllowedExchange w None judged open_ = (judged ≡ 0) × (open_ ≡ 0)
IsAllowedExchange w (Some (step, reply)) judged open_ = AllowsReply w step reply × (judged ≡ 1) × CountsLetOff w step reply open_

-- in the place of a wrong answer the one that is due, or some that is allowed where none comes first
abbrev pub StandsIn : World → Step → Due → Reply → Type 0
StandsIn w step (Alone answer) given = given ≡ answer
StandsIn w step (Or answer) given = given ≡ answer
StandsIn w step Open given = AllowsReply w step given

-- What is heard of the exchange at the line of this number. That is how many of its answers are allowed, how many wrong, and how many let
-- off, and what is told of it. After a wrong one the history goes on as if another had been given
pub data IsHeard (begins : Begins) (w : World) (number : ℕ) (x : Exchange) : (allowed wrong open_ : ℕ) → (told : List ℕ) → Type 0 where
  right : (allowed open_ : ℕ) → IsExchange begins x → IsAllowedExchange w x.judged allowed open_ → IsHeard begins w number x allowed 0 open_ []
  amiss : (why : Why) (shown : Option Shown) (given : Reply) → (is : IsWrong begins w x.asked x.answer why shown) → x.judged ≡ Some (judged_as begins is.own, given) → StandsIn w (judged_as begins is.own) why.due given
      → IsHeard begins w number x 0 1 0 (wrong_text number x.asked x.answer why shown)

-- the same of exchanges that stand behind this text, one after another
pub data AreHeard (begins : Begins) (w : World) (before : List ℕ) : List Exchange → (allowed wrong open_ : ℕ) → (told : List ℕ) → Type 0 where
  nothing : AreHeard begins w before [] 0 0 0 []
  further : (xs : List Exchange) (x : Exchange) (allowed wrong open_ allowed' wrong' open_' : ℕ) (told told' : List ℕ) → AreHeard begins w before xs allowed wrong open_ told
      → IsHeard begins (after w (steps_judged xs) (replies_judged xs)) (line_ends (before ++ exchanges_text xs) + 1) x allowed' wrong' open_' told'
      → AreHeard begins w before (xs ++ x ∷ []) (allowed + allowed') (wrong + wrong') (open_ + open_') (told ++ told')

-- the same behind a first line in range. What the history goes on by is a run
pub record AreJudged (begins : Begins) (s : Settings) (xs : List Exchange) (allowed wrong open_ : ℕ) (told : List ℕ) : Type 0 where
  pub in_range : AreSettings s
  pub fits : SettingsFit s
  pub heard : AreHeard begins (beginning s.indexed) (with_feed (heading s)) xs allowed wrong open_ told
  pub run : IsRun (beginning s.indexed) (steps_judged xs) (replies_judged xs)

-- no first line with settings in range is at the front
abbrev pub IsBadFirst : List ℕ → Type 0
IsBadFirst input = (s : Settings) (more : List ℕ) → AreSettings s → SettingsFit s → input ≡ with_feed (heading s) ++ more → ⊥

-- a step or a look is asked for
abbrev pub IsQuestion : List ℕ → Type 0
IsQuestion asked = ((step : Step) × AsksFor asked step) ⊎ IsLook asked

-- something is there, and no prompt with such a line is at its front
pub record IsBadQuestion (rest : List ℕ) : Type 0 where
  pub some : 0 < length rest
  pub bad : (asked more : List ℕ) → position (λ b. b == 10) asked ≡ None → IsQuestion asked → rest ≡ codes "> " ++ (with_feed asked ++ more) → ⊥

-- an answer to the line, up to the next prompt or the end: any to a look, one that may be a reply to a step
abbrev pub IsAnswerTo : List ℕ → List ℕ → Type 0
IsAnswerTo asked answer = IsLook asked ⊎ ((reply : Reply) × MayBe answer reply)

-- a line is asked, and no answer to it is at the front of what stands behind it
pub record IsBadAnswer (rest : List ℕ) : Type 0 where
  pub asked : List ℕ
  pub left : List ℕ
  pub is : rest ≡ codes "> " ++ (with_feed asked ++ left)
  pub question : IsQuestion asked
  pub bad : (answer more : List ℕ) → IsOneAnswer answer → is_next_or_end more ≡ true → IsAnswerTo asked answer → left ≡ with_feed answer ++ more → ⊥

-- the line of this number is bad: that of a question, or the first of an answer
abbrev pub IsBadExchange : (number before : ℕ) (rest : List ℕ) → Type 0
IsBadExchange number before rest = ((number ≡ before + 1) × IsBadQuestion rest) ⊎ ((number ≡ before + 2) × IsBadAnswer rest)

-- what was judged before a bad line: it is allowed, or told to be wrong
abbrev pub WentBefore : Begins → Until → Settings → List Exchange → Type 0
WentBefore begins FirstWrong s xs = AreAllowed begins s xs
WentBefore begins End s xs = (allowed wrong open_ : ℕ) × (told : List ℕ) × AreJudged begins s xs allowed wrong open_ told

-- What is said of a text with a wrong answer. Up to the first: those before it are allowed, and it is not. Up to the end: all of the text
-- was heard, and more than none is wrong
abbrev pub JudgesWrong : Begins → Until → (input out : List ℕ) → Type 0
JudgesWrong begins FirstWrong input out = (s : Settings) × (xs : List Exchange) × (asked answer rest : List ℕ) × (why : Why) × (shown : Option Shown)
    × AreAllowed begins s xs × (input ≡ transcript_text s xs ++ (exchange_text asked answer ++ rest)) × (is_next_or_end rest ≡ true)
    × IsWrong begins (world_after s xs) asked answer why shown × (out ≡ wrong_text (line_ends (transcript_text s xs) + 1) asked answer why shown)
JudgesWrong begins End input out = (s : Settings) × (xs : List Exchange) × (allowed wrong open_ : ℕ) × (told : List ℕ)
    × AreJudged begins s xs allowed wrong open_ told × (0 < wrong) × (input ≡ transcript_text s xs) × (out ≡ told ++ end_text wrong allowed open_)

-- What is said of a text. Where it is allowed, all of it is the text of exchanges that are allowed. After bad line n those before it were
-- judged, and n is the first line that can't be read. Memory may be refused, and then nothing is said
abbrev pub JudgesText : Begins → Until → Result Bool Fault → (input out : List ℕ) → Type 0
JudgesText begins until (Ok true) input out = (s : Settings) × (xs : List Exchange) × (open_ : ℕ)
    × AreAllowed begins s xs × AreJudged begins s xs (length (steps_judged xs)) 0 open_ [] × (input ≡ transcript_text s xs)
    × (out ≡ allowed_text (length (steps_judged xs)) open_)
JudgesText begins until (Ok false) input out = JudgesWrong begins until input out
JudgesText begins until (Err (BadLine n)) input out = ((n ≡ 1) × IsBadFirst input)
    ⊎ ((s : Settings) × (xs : List Exchange) × (rest : List ℕ) × WentBefore begins until s xs
    × (input ≡ transcript_text s xs ++ rest) × IsBadExchange n (line_ends (transcript_text s xs)) rest)
JudgesText begins until (Err NoMemory) input out = Unit {0}
JudgesText begins until (Err fault) input out = ⊥

-- And that is written, or a beginning of it where the writer fails. After a bad line nothing is, nor where memory was refused or the
-- reader failed
abbrev pub TranscriptOutcome : Begins → Until → Result Bool Fault → List ℕ → Option (List ℕ) → Option (List ℕ) → Type 0
TranscriptOutcome begins until (Ok allowed) input before after = (out : List ℕ) × JudgesText begins until (Ok allowed) input out × Appends before after out
TranscriptOutcome begins until (Err (BadLine n)) input before after = JudgesText begins until (Err (BadLine n)) input [] × Keeps before after
TranscriptOutcome begins until (Err Output) input before after = (allowed : Bool) × (out : List ℕ) × JudgesText begins until (Ok allowed) input out × WritesFront before after out
TranscriptOutcome begins until (Err fault) input before after = Keeps before after

abbrev pub exit_status_for : Fault → ℕ
exit_status_for (BadLine n) = 1
exit_status_for Input = 2
exit_status_for Output = 2
exit_status_for NoMemory = 3
