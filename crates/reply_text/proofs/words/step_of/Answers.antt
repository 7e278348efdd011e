use Rattle.std.proofs.Common.{List, ℕ, Option, subst}
use Rattle.calls.specs.declared.step.Step.{Step}
use Rattle.reply_text.specs.Replies.{SpellsStep}
use Rattle.reply_text.proofs.RowLaws.{no_line, no_step}
use Rattle.reply_text.proofs.words.step_of.Goals as goal

pub returns-in_default : goal.returns-in_default
returns-in_default c =
    let says = rw (c.as_slice.ensures.value, c.in_ok-text.ensures, c.in_default.is) at c.in-Ok.ensures in
    no_line _ says
