use Rattle.std.proofs.Common.{eqb, rules, tests, Some, [], ◌∷◌, sym, ap, ◌∙◌}
use Rattle.std.specs.Slice.Iter.{split_callee}
use Rattle.std.proofs.lemmas.List.{map-append}
use Rattle.std.proofs.lemmas.Iterator.Consumers.{YieldsList-turn, YieldsList-end}
use Rattle.std.proofs.lemmas.Iterator.Splits.{YieldsList-from_slice_split}
use Rattle.reply_text.specs.Reading.{each_of, row_line_of}
use Rattle.reply_text.proofs.LineLaws.{each_of-more, each_of-stop}
use Rattle.reply_text.proofs.rows.rows_of_lines.Goals as goal

pub loop-line-init : goal.loop-line-init
unfolding each_of
loop-line-init c = cc

pub returns-in_default : goal.returns-in_default
returns-in_default c =
    let is = c.into_iter-line-iterator.ensures.into_iter_gives in
    let split = c.split-line-items.ensures in
    let turn = YieldsList-turn (YieldsList-from_slice_split _ (λ b. eqb b 10) c.args.lines.now (rw is split.rest) (rw is split.done) (ap split_callee is ∙ split.closure) (λ x r q k. search (rules, tests) fits 20000))
    c.loop-line.yielded _ c.loop-line.yielded_by _ _ c.in-Some.line c.in-Some.is c.next.ensures.steps in
    let none = rw c.in_default.is at c.in_ok-row.ensures in
    sym (each_of-stop row_line_of _ _ c.in-Some.line.now turn.0 turn.1 (sym none))

pub loop-line-preserved : goal.loop-line-preserved
loop-line-preserved c =
    let done = rw c.in-Some-2.is at c.in_ok-row.ensures in
    let more = each_of-more row_line_of _ _ _ _ c.loop-line.invariant (sym done) in
    ap (each_of row_line_of) (map-append (λ x. x.now) c.loop-line.yielded (c.in-Some.line ∷ [])) ∙ more ∙ ap (λ xs. Some xs) (sym c.in_ok-push_row.ensures)

pub returns : goal.returns
returns c =
    let is = c.into_iter-line-iterator.ensures.into_iter_gives in
    let split = c.split-line-items.ensures in
    let end = YieldsList-end (YieldsList-from_slice_split _ (λ b. eqb b 10) c.args.lines.now (rw is split.rest) (rw is split.done) (ap split_callee is ∙ split.closure) (λ x r q k. search (rules, tests)))
    c.loop-line.yielded _ c.loop-line.yielded_by _ _ c.in-None.is c.next.ensures.steps in
    sym c.loop-line.invariant ∙ ap (each_of row_line_of) end.0
