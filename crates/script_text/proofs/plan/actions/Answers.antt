use Rattle.std.proofs.Common.{eqb, rules, tests, Some, [], ◌∷◌, sym, ap, ◌∙◌}
use Rattle.std.specs.Slice.Iter.{split_callee}
use Rattle.std.proofs.lemmas.List.{map-append}
use Rattle.std.proofs.lemmas.Iterator.Consumers.{YieldsList-turn, YieldsList-end}
use Rattle.std.proofs.lemmas.Iterator.Splits.{YieldsList-from_slice_split}
use Rattle.script_text.specs.Reading.{actions_of}
use Rattle.script_text.proofs.ReadingLemmas.{actions_of-more, actions_of-stop}
use Rattle.script_text.proofs.plan.actions.Goals as goal

pub loop-word-init : goal.loop-word-init
unfolding actions_of
loop-word-init c = cc

pub returns-in_default : goal.returns-in_default
returns-in_default c =
    let is = c.into_iter-word-iterator.ensures.into_iter_gives in
    let split = c.split-word-items.ensures in
    let turn = YieldsList-turn (YieldsList-from_slice_split _ (λ b. eqb b 32) c.args.words.now (rw is split.rest) (rw is split.done) (ap split_callee is ∙ split.closure) (λ x r q k. search (rules, tests) fits 20000))
    c.loop-word.yielded _ c.loop-word.yielded_by _ _ c.in-Some.word c.in-Some.is c.next.ensures.steps in
    let none = rw c.in_default.is at c.action.ensures in
    sym (actions_of-stop _ _ c.in-Some.word.now turn.0 turn.1 (sym none))

pub loop-word-preserved : goal.loop-word-preserved
loop-word-preserved c =
    let done = rw c.in-Some-action.is at c.action.ensures in
    let more = actions_of-more _ _ _ _ c.loop-word.invariant (sym done) in
    ap actions_of (map-append (λ x. x.now) c.loop-word.yielded (c.in-Some.word ∷ [])) ∙ more ∙ ap (λ xs. Some xs) (sym c.in_ok-push_action.ensures.added)

pub returns : goal.returns
returns c =
    let is = c.into_iter-word-iterator.ensures.into_iter_gives in
    let split = c.split-word-items.ensures in
    let end = YieldsList-end (YieldsList-from_slice_split _ (λ b. eqb b 32) c.args.words.now (rw is split.rest) (rw is split.done) (ap split_callee is ∙ split.closure) (λ x r q k. search (rules, tests)))
    c.loop-word.yielded _ c.loop-word.yielded_by _ _ c.in-None.is c.next.ensures.steps in
    sym c.loop-word.invariant ∙ ap actions_of end.0
