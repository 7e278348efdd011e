-- What is read is one reply.
use Rattle.std.proofs.Common.{◌≡◌, ℕ, List, [], ◌∷◌, refl, ap, ◌∙◌, sym, subst, Option, None, Some, codes}
use Rattle.std.proofs.lemmas.Option.{none-some, same_Some}
use Rattle.calls.specs.declared.reply.Reply.{Reply}
use Rattle.calls.specs.declared.reply.Reply.TheVariants as reply
use Rattle.script_text.specs.Answers.{reply_text}
use Rattle.reply_text.specs.Replies.{ReplyFits}
use Rattle.reply_text.specs.Reading.{Telling, plain, rows, keys, told, told_of, refusal_named, busy_of}
use Rattle.reply_text.proofs.ReplyLaws.{told_of-text}

-- Busy without a session spells no reply
bare_busy : told_of (codes "error 7 Busy") ≡ None
unfolding told_of refusal_named busy_of
bare_busy = refl

pub no_bare_busy : (r : Reply) → ReplyFits r → codes "error 7 Busy" ≡ reply_text r → ⊥
no_bare_busy r fits is = none-some (told r) (sym bare_busy ∙ ap told_of is ∙ told_of-text r fits)

-- two replies that a text spells tell the same
pub told_once : (a b : Reply) → ReplyFits a → ReplyFits b → reply_text a ≡ reply_text b → told a ≡ told b
told_once a b f g e = same_Some (told a) (told b) (sym (told_of-text a f) ∙ ap told_of e ∙ told_of-text b g)
