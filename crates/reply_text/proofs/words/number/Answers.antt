use Rattle.std.proofs.Common.{◌≡◌, ◌<◌, ◌^◌, ℕ, arith, ap, sym, ◌∙◌, Some}
use Rattle.std.proofs.lemmas.Option.{none-some, same_Some}
use Rattle.calls.specs.declared.step.Step.{Step}
use Rattle.calls.specs.declared.step.Step.TheVariants as step
use Rattle.reply_text.proofs.RowLaws.{number_read, no_number, session_of_get, key_of_get}
use Rattle.reply_text.proofs.words.number.Goals as goal

pub returns-in_default-clause-value : goal.returns-in_default-clause-value
returns-in_default-clause-value c =
    let says = rw c.in_default.is at c.in_ok-step.ensures in
    no_number _ _ c.args.max (omega (arith, c.ranges.max.fits)) says (λ n e small. none-some (step.Get 0 n) e)

pub returns-then-s-ne0-clause-value : goal.returns-then-s-ne0-clause-value
returns-then-s-ne0-clause-value c =
    let says = rw (c.in-Some.is, c.in-Get.is) at c.in_ok-step.ensures in
    no_number _ _ c.args.max (omega (arith, c.ranges.max.fits)) says (λ n e small. c.if-s-ne0.true (session_of_get _ _ _ _ (same_Some _ _ e)))

pub returns-then-n-max-clause-value : goal.returns-then-n-max-clause-value
returns-then-n-max-clause-value c =
    let says = rw (c.in-Some.is, c.in-Get.is) at c.in_ok-step.ensures in
    let over = c.if-n-max.true in
    no_number _ _ c.args.max (omega (arith, c.ranges.max.fits)) says (λ n e small. let same = key_of_get _ _ _ _ (same_Some _ _ e) in omega (arith, same, over, small))

pub returns-clause-value : goal.returns-clause-value
returns-clause-value c =
    let says = rw (c.in-Some.is, c.in-Get.is) at c.in_ok-step.ensures in
    number_read _ _ _ c.args.max says c.if-s-ne0.false c.if-n-max.false (omega (arith, c.ranges.max.fits))
