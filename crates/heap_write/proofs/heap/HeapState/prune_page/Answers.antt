use Rattle.std.proofs.Common.{◌≡◌, sym, ◌∙◌, subst}
use Rattle.heap_write.specs.Heap.{HeapView}
use Rattle.heap_write.specs.Writes.{Prunes}
use Rattle.heap_write.specs.Steps.{IsPlanOn, with_applied}
use Rattle.heap_write.proofs.Plans.{named-none, empty-prunes, applied-prunes}
use Rattle.heap_write.proofs.heap.HeapState.prune_page.Goals as goal

pub returns-then-is_empty : goal.returns-then-is_empty
returns-then-is_empty c =
    let h = c.args.self.now in
    let n = c.args.number in
    let horizon = c.args.horizon.0 in
    let actions = c.plan_page.new.plan.actions.items in
    let plan = subst (λ names. IsPlanOn h n horizon names) (named-none actions c.is_empty.result c.is_empty.ensures c.if-is_empty.true) c.plan_page.ensures.exact in
    subst (λ (v : HeapView). Prunes h v n horizon) (sym (c.note_first_death.ensures ∙ c.plan_page.ensures.same)) (empty-prunes h n horizon c.requires.within plan)

pub returns : goal.returns
returns c =
    let h = c.args.self.now in
    let n = c.args.number in
    let actions = c.plan_page.new.plan.actions.items in
    let is : c.do_actions.new.self ≡ with_applied h n actions =
    subst (λ (v : HeapView). c.do_actions.new.self ≡ with_applied v n actions) c.plan_page.ensures.same
    (subst (λ names. c.do_actions.new.self ≡ with_applied c.plan_page.new.self n names) c.as_slice.ensures.value c.do_actions.ensures) in
    applied-prunes h c.do_actions.new.self n c.args.horizon.0 actions c.requires.within c.plan_page.ensures.exact is
