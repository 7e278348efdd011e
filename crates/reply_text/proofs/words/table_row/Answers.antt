use Rattle.std.proofs.Common.{◌≡◌, Some, sym, ◌∙◌}
use Rattle.std.proofs.lemmas.Option.{none-some, same_Some}
use Rattle.calls.specs.declared.step.Step.TheVariants as step
use Rattle.reply_text.proofs.RowLaws.{row_read, no_row, session_of_insert}
use Rattle.reply_text.proofs.words.table_row.Goals as goal

pub returns-in_default : goal.returns-in_default
returns-in_default c =
    let says = rw c.in_default.is at c.in_ok-step.ensures in
    no_row _ _ says (λ row e. none-some (step.Insert 0 row) e)

pub returns-then-s-eq0 : goal.returns-then-s-eq0
returns-then-s-eq0 c =
    let says = rw (c.in-Some.is, c.in-Insert.is) at c.in_ok-step.ensures in
    row_read _ _ _ _ says c.if-s-eq0.true c.short_row.ensures

pub returns : goal.returns
returns c =
    let says = rw (c.in-Some.is, c.in-Insert.is) at c.in_ok-step.ensures in
    no_row _ _ says (λ row e. c.if-s-eq0.false (session_of_insert _ _ _ _ (same_Some _ _ e)))
