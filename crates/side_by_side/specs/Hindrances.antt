-- Replies beside what hinders a step, of which the history knows nothing.
use Rattle.std.specs.Prelude.{◌≡◌, Option, Some, None}
use Rattle.calls.specs.declared.reply.Reply.{Reply}
use Rattle.calls.specs.declared.reply.Reply.TheVariants as reply
use Rattle.calls.specs.declared.reply.Refusal.{Refusal}
use Rattle.one_answer.specs.OneAnswer.{IsOfTheEngine}

-- a refusal for what the history does not know is that for what hinders the step, and nothing hinders a step that was not refused
abbrev pub AgreesWith : Option Refusal → Reply → Type 0
AgreesWith hindrance (reply.Refused refusal) = IsOfTheEngine refusal → hindrance ≡ Some refusal
AgreesWith hindrance reply = hindrance ≡ None
