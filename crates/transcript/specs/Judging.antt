-- What is asked for by a line, and what is said of its answer.
use Rattle.std.specs.Prelude.{◌≡◌, ℕ, ◌+◌, ◌^◌, ◌<◌, ◌≤◌, ◌⊎◌, Bool, true, false, List, [], ◌++◌, length, take, drop, Option, Some, None, Result, Ok, Err, MatchOption}
use Rattle.calls.specs.Words.{AreSettings}
use Rattle.calls.specs.declared.settings.Settings.{Settings}
use Rattle.script_text.specs.Grammar.{SettingsFit, heading, with_feed}
use Rattle.history.specs.World.{World}
use Rattle.calls.specs.declared.step.Step.{Step}
use Rattle.calls.specs.declared.reply.Reply.{Reply}
use Rattle.calls.specs.declared.reply.Reply.TheVariants as reply
use Rattle.calls.specs.declared.reply.Refusal.TheVariants as refusal
use Rattle.refinement.specs.Allowed.{AllowsReply, after_reply, IsRun, after}
use Rattle.judge.specs.declared.due.Due.{Due}
use Rattle.judge.specs.declared.why.Why.{Why}
use Rattle.judge.specs.Reasons.{Breaks, TellsDue}
use Rattle.transcript.specs.declared.begins.Begins.{Begins}
use Rattle.transcript.specs.declared.question.Question.{Question}
use Rattle.transcript.specs.declared.question.Question.TheVariants as question
use Rattle.transcript.specs.declared.ruling.Verdict.{Verdict}
use Rattle.transcript.specs.declared.ruling.Verdict.TheVariants as verdict
use Rattle.transcript.specs.declared.showing.Shown.{Shown}
use Rattle.transcript.specs.declared.exchanges.Past.{Past}
use Rattle.transcript.specs.declared.exchanges.Heard.{Heard}
use Rattle.transcript.specs.declared.exchanges.Heard.TheVariants.{Went, Wrong}
use Rattle.transcript.specs.declared.fault.Fault.{Fault}
use Rattle.transcript.specs.declared.fault.Fault.TheVariants.{BadLine, NoMemory}
use Rattle.transcript.specs.Transcripts.{AsksFor, IsLook, IsQuestion, MayBe, judged_as, Exchange, IsExchange, exchange_text, exchanges_text, is_next_or_end, steps_judged, replies_judged, IsAllowedExchange, CountsLetOff, StandsIn, IsHeard, AreHeard, IsWrong, IsBadExchange, IsBadFirst, allowed_text, wrong_text, end_text, line_ends}

abbrev pub IsAskedBy : Begins → List ℕ → Option Question → Type 0
IsAskedBy begins asked (Some (question.Step step)) = (own : Step) × AsksFor asked own × (step ≡ judged_as begins own)
IsAskedBy begins asked (Some question.Look) = IsLook asked
IsAskedBy begins asked None = IsQuestion asked → ⊥

-- the reply is allowed and leads on; or it is not, and why
abbrev pub JudgesReply : World → Step → Reply → Verdict → World → Type 0
JudgesReply w step reply (verdict.Allowed open_) new = AllowsReply w step reply × (new ≡ after_reply w step reply) × CountsLetOff w step reply open_
JudgesReply w step reply (verdict.Wrong why) new = (¬ AllowsReply w step reply) × (new ≡ w) × Breaks why.rule w step reply × TellsDue w step why.due

-- the answer is judged by a reply that it may stand for, if there is one
abbrev pub JudgesAnswer : World → Step → List ℕ → Option Verdict → World → Type 0
JudgesAnswer w step answer (Some (verdict.Allowed open_)) new = (reply : Reply) × MayBe answer reply × JudgesReply w step reply (verdict.Allowed open_) new
JudgesAnswer w step answer (Some (verdict.Wrong why)) new = (some : Reply) × MayBe answer some × ((reply : Reply) → MayBe answer reply → ¬ AllowsReply w step reply) × JudgesReply w step some (verdict.Wrong why) new
JudgesAnswer w step answer None new = (reply : Reply) → MayBe answer reply → ⊥

-- by this session Busy is allowed, or by none
abbrev pub NamesBusy : World → Step → ℕ → Type 0
NamesBusy w step s = (s < 2 ^ 8) × (AllowsReply w step (reply.Refused (refusal.Busy s)) ⊎ ((t : ℕ) → t < 2 ^ 8 → ¬ AllowsReply w step (reply.Refused (refusal.Busy t))))

-- the same of a Busy that names nobody
abbrev pub JudgesBusy : World → Step → Verdict → World → Type 0
JudgesBusy w step (verdict.Allowed open_) new = (s : ℕ) × (s < 2 ^ 8) × JudgesReply w step (reply.Refused (refusal.Busy s)) (verdict.Allowed open_) new
JudgesBusy w step (verdict.Wrong why) new = (s : ℕ) × (s < 2 ^ 8) × ((s : ℕ) → s < 2 ^ 8 → ¬ AllowsReply w step (reply.Refused (refusal.Busy s))) × JudgesReply w step (reply.Refused (refusal.Busy s)) (verdict.Wrong why) new

-- the history goes on by what stands in for a wrong answer
abbrev pub GoesOnAs : World → Step → Due → World → Type 0
GoesOnAs w step due new = (given : Reply) × StandsIn w step due given × AllowsReply w step given × (new ≡ after_reply w step given)

-- an exchange leads the history on
abbrev pub GoesOnBy : World → Option (Step × Reply) → World → Type 0
GoesOnBy w None new = new ≡ w
GoesOnBy w (Some (step, reply)) new = AllowsReply w step reply × (new ≡ after_reply w step reply)

-- an exchange stands at this place of the text, and the next at that
abbrev pub StandsInText : List ℕ → (at next : ℕ) → (asked answer : List ℕ) → Type 0
StandsInText text at next asked answer = (drop at text ≡ exchange_text asked answer ++ drop next text) × (next ≤ length text)

-- the exchange at this place of the text: it is allowed, and so many steps of it were judged and let off; or its answer is wrong
abbrev pub IsNextExchange : Begins → World → List ℕ → ℕ → Heard → World → (old out : List ℕ) → Type 0
IsNextExchange begins w text at (Went next judged open_) new old out = (x : Exchange) × IsExchange begins x × IsAllowedExchange w x.judged judged open_ × GoesOnBy w x.judged new
    × StandsInText text at next x.asked x.answer × (out ≡ old)
IsNextExchange begins w text at (Wrong next step due) new old out = (asked answer : List ℕ) × (why : Why) × (shown : Option Shown) × (is : IsWrong begins w asked answer why shown)
    × (step ≡ judged_as begins is.own) × (due ≡ why.due) × (new ≡ w)
    × StandsInText text at next asked answer × (is_next_or_end (drop next text) ≡ true) × (out ≡ old ++ wrong_text (line_ends (take at text) + 1) asked answer why shown)

-- the same, where it is past only if its answer is not wrong
abbrev pub IsRightOrWrong : Begins → World → List ℕ → ℕ → Option Past → World → (old out : List ℕ) → Type 0
IsRightOrWrong begins w text at None new old out = (next : ℕ) × (step : Step) × (due : Due) × IsNextExchange begins w text at (Wrong next step due) new old out
IsRightOrWrong begins w text at (Some past) new old out = IsNextExchange begins w text at (Went past.next past.allowed past.left_open) new old out

-- the same where the history goes on after a wrong answer too
abbrev pub IsPastExchange : Begins → World → List ℕ → ℕ → Past → World → (old out : List ℕ) → Type 0
IsPastExchange begins w text at past new old out = (x : Exchange) × (told : List ℕ) × IsHeard begins w (line_ends (take at text) + 1) x past.allowed past.wrong past.left_open told
    × GoesOnBy w x.judged new × StandsInText text at past.next x.asked x.answer × (out ≡ old ++ told)

-- which line is bad, if that is the fault; else memory was refused
abbrev pub MatchesExchange : List ℕ → ℕ → Fault → Type 0
MatchesExchange text at (BadLine n) = IsBadExchange n (line_ends (take at text)) (drop at text)
MatchesExchange text at NoMemory = Unit {0}
MatchesExchange text at fault = ⊥

-- how the exchanges end: all are allowed, the next is wrong, or a fault comes
abbrev pub EndsExchanges : Begins → World → List ℕ → (at allowed open_ : ℕ) → Result Bool Fault → (old out : List ℕ) → Type 0
EndsExchanges begins w text at allowed open_ (Ok true) old out = (drop at text ≡ []) × (out ≡ old ++ allowed_text allowed open_)
EndsExchanges begins w text at allowed open_ (Ok false) old out = (asked answer rest : List ℕ) × (why : Why) × (shown : Option Shown) × IsWrong begins w asked answer why shown
    × (drop at text ≡ exchange_text asked answer ++ rest) × (is_next_or_end rest ≡ true) × (out ≡ old ++ wrong_text (line_ends (take at text) + 1) asked answer why shown)
EndsExchanges begins w text at allowed open_ (Err fault) old out = MatchesExchange text at fault

-- exchanges from this place of the text on
pub record AreExchanges (begins : Begins) (w : World) (text : List ℕ) (from : ℕ) (result : Result Bool Fault) (old out : List ℕ) : Type 0 where
  pub xs : List Exchange
  pub open_ : ℕ
  pub heard : AreHeard begins w (take from text) xs (length (steps_judged xs)) 0 open_ []
  pub run : IsRun w (steps_judged xs) (replies_judged xs)
  pub at : ℕ
  pub text_is : take at text ≡ take from text ++ exchanges_text xs
  pub ends : EndsExchanges begins (after w (steps_judged xs) (replies_judged xs)) text at (length (steps_judged xs)) open_ result old out

-- what is said at the end of a text
abbrev pub TellsCounts : (allowed wrong open_ : ℕ) → Result Bool Fault → (old out : List ℕ) → Type 0
TellsCounts allowed wrong open_ (Ok true) old out = (wrong ≡ 0) × (out ≡ old ++ allowed_text allowed open_)
TellsCounts allowed wrong open_ (Ok false) old out = (0 < wrong) × (out ≡ old ++ end_text wrong allowed open_)
TellsCounts allowed wrong open_ (Err NoMemory) old out = Unit {0}
TellsCounts allowed wrong open_ (Err fault) old out = ⊥

-- how all of them end
abbrev pub EndsAll : List ℕ → (at allowed wrong open_ : ℕ) → Result Bool Fault → (told out : List ℕ) → Type 0
EndsAll text at allowed wrong open_ (Ok result) told out = (drop at text ≡ []) × TellsCounts allowed wrong open_ (Ok result) told out
EndsAll text at allowed wrong open_ (Err fault) told out = MatchesExchange text at fault

-- exchanges from this place of the text on, also behind wrong answers
pub record AreAllExchanges (begins : Begins) (w : World) (text : List ℕ) (from : ℕ) (result : Result Bool Fault) (old out : List ℕ) : Type 0 where
  pub xs : List Exchange
  pub allowed : ℕ
  pub wrong : ℕ
  pub open_ : ℕ
  pub told : List ℕ
  pub heard : AreHeard begins w (take from text) xs allowed wrong open_ told
  pub count : allowed + wrong ≡ length (steps_judged xs)
  pub run : IsRun w (steps_judged xs) (replies_judged xs)
  pub at : ℕ
  pub text_is : take at text ≡ take from text ++ exchanges_text xs
  pub ends : EndsAll text at allowed wrong open_ result (old ++ told) out

-- the settings of the first line, and where the next begins
abbrev pub IsFirstLine : List ℕ → Option (Settings × ℕ) → Type 0
IsFirstLine text first = MatchOption first (IsBadFirst text) (λ p. AreSettings p.0 × SettingsFit p.0 × (take p.1 text ≡ with_feed (heading p.0)) × (p.1 ≤ length text))
