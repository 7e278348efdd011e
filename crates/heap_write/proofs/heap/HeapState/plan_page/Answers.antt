use Rattle.std.proofs.Common.{◌≡◌, Some, slice_get, length, sym, subst}
use Rattle.page_slots.specs.View.{PageView}
use Rattle.space_maps.specs.Hints.{hint_on}
use Rattle.prune.specs.Actions.{CanApply}
use Rattle.prune.specs.Glances.{AreDoubts}
use Rattle.prune.specs.Pruning.{IsPlan}
use Rattle.heap_write.specs.Heap.{HeapView, page_on}
use Rattle.heap_write.proofs.PageLemmas.{page-at}
use Rattle.heap_write.proofs.HintLemmas.{hints-doubted}
use Rattle.heap_write.proofs.heap.HeapState.plan_page.Goals as goal

pub plan_by_doubts-requires : goal.plan_by_doubts-requires
plan_by_doubts-requires c =
    let w = c.self.inside.statuses in
    let pages = c.self.inside.pages.pages in
    let n = c.args.number in
    let page = c.page_at-page.result.now in
    let at : slice_get pages n ≡ Some page = c.page_at-page.ensures in
    record {
      known = subst (λ doubts. AreDoubts w page.slots doubts) (sym c.doubts-doubts.ensures)
          (subst (λ (p : PageView). AreDoubts w p.slots (hint_on c.self.inside.hints.pages n).doubts) (page-at pages n page at) (c.self.invariant.1.doubts n));
    }

pub invariant_of-self : goal.invariant_of-self
invariant_of-self c = (
  c.self.invariant.0,
  hints-doubted c.self.inside.statuses c.self.inside.pages.pages c.self.inside.hints.pages c.note_doubts.new.self.pages c.args.number c.plan_by_doubts.new.doubts c.page_at-page.result.now
      c.page_at-page.ensures c.plan_by_doubts.ensures.known c.note_doubts.ensures.pages c.self.invariant.1,
)

pub returns-clause-can_apply : goal.returns-clause-can_apply
returns-clause-can_apply c =
    let n = c.args.number in
    let actions = c.plan_by_doubts.new.plan.actions.items in
    let at = c.page_at-page.ensures in
    subst (λ (h : HeapView). CanApply (length (page_on h n).slots) actions) c.self.view_is
    (subst (λ (p : PageView). CanApply (length p.slots) actions) (sym (page-at c.self.inside.pages.pages n c.page_at-page.result.now at)) c.plan_by_doubts.ensures.can_apply)

pub returns-clause-exact : goal.returns-clause-exact
returns-clause-exact c =
    let n = c.args.number in
    let horizon = c.args.horizon.0 in
    let actions = c.plan_by_doubts.new.plan.actions.items in
    let at = c.page_at-page.ensures in
    subst (λ (h : HeapView). IsPlan h.statuses horizon (page_on h n).slots actions) c.self.view_is
    (subst (λ (p : PageView). IsPlan c.self.inside.statuses horizon p.slots actions) (sym (page-at c.self.inside.pages.pages n c.page_at-page.result.now at)) c.plan_by_doubts.ensures.exact)
