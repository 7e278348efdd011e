use Rattle.std.proofs.Common.{sym, ◌∙◌}
use Rattle.script_text.proofs.WordLemmas.{plan_of-alone, plan_of-unread, plan_of-undone, plan_of-read}
use Rattle.script_text.proofs.plan.plan.Goals as goal

pub returns-in_default : goal.returns-in_default
returns-in_default c =
    let uncut = rw c.in_default.is at c.cut.ensures in
    c.idle_plan.ensures ∙ sym (plan_of-alone c.args.text.now (sym uncut))

pub returns-in_default-number : goal.returns-in_default-number
returns-in_default-number c =
    let cut = rw c.in-Some.is at c.cut.ensures in
    let none = rw c.in_default-number.is at c.number.ensures.value in
    sym (plan_of-unread c.args.text.now _ _ (sym cut) (sym none))

pub returns-in_default-2 : goal.returns-in_default-2
returns-in_default-2 c =
    let cut = rw c.in-Some.is at c.cut.ensures in
    let none = rw c.in_default-2.is at c.in_ok-actions.ensures in
    sym (plan_of-undone c.args.text.now _ _ (sym cut) (sym none))

pub returns : goal.returns
returns c =
    let cut = rw c.in-Some.is at c.cut.ensures in
    let change = rw c.in-Some-number.is at c.number.ensures.value in
    let actions = rw c.in-Some-2.is at c.in_ok-actions.ensures in
    sym (plan_of-read c.args.text.now _ _ _ _ (sym cut) (sym change) (sym actions))
