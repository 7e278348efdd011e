use Rattle.std.proofs.Common.{◌≡◌, refl, Some, slice_get, subst}
use Rattle.prune.specs.Pruning.{IsPlan}
use Rattle.heap_write.specs.Heap.{HeapView}
use Rattle.heap_write.proofs.Plans.{plan-at, can-at}
use Rattle.heap_write.proofs.Visited.{visited-says}
use Rattle.heap_write.proofs.heap.HeapState.clean_by_plan.Goals as goal

pub freeze_by_plan-found-requires-clause-can_apply : goal.freeze_by_plan-found-requires-clause-can_apply
freeze_by_plan-found-requires-clause-can_apply c =
    let h = c.args.self.now in
    let n = c.args.number in
    let page = c.page_at.result.now in
    let at : slice_get h.pages.pages n ≡ Some page = subst (λ (v : HeapView). slice_get v.pages.pages n ≡ Some page) c.self.view_is c.page_at.ensures in
    can-at h n page c.plan-plan.result.actions.items at c.plan-plan.ensures.can_apply

pub returns-then-is_visible : goal.returns-then-is_visible
returns-then-is_visible c =
    let h = c.args.self.now in
    let n = c.args.number in
    let horizon = c.args.horizon.0 in
    let page = c.page_at.result.now in
    let actions = c.plan-plan.result.actions.items in
    let at : slice_get h.pages.pages n ≡ Some page = subst (λ (v : HeapView). slice_get v.pages.pages n ≡ Some page) c.self.view_is c.page_at.ensures in
    let exact = subst (λ (v : HeapView). IsPlan v.statuses horizon page.slots actions) c.self.view_is c.plan-plan.ensures.exact in
    visited-says h c.freeze_by_plan-found.new.self c.note_none_deleted.new.self n c.args.cutoff.0 horizon actions _ c.requires.within (plan-at h n horizon page actions at exact)
    c.freeze_by_plan-found.ensures.freezes c.note_none_deleted.ensures

pub returns-then-is_empty : goal.returns-then-is_empty
returns-then-is_empty c =
    let h = c.args.self.now in
    let n = c.args.number in
    let horizon = c.args.horizon.0 in
    let page = c.page_at.result.now in
    let actions = c.plan-plan.result.actions.items in
    let at : slice_get h.pages.pages n ≡ Some page = subst (λ (v : HeapView). slice_get v.pages.pages n ≡ Some page) c.self.view_is c.page_at.ensures in
    let exact = subst (λ (v : HeapView). IsPlan v.statuses horizon page.slots actions) c.self.view_is c.plan-plan.ensures.exact in
    visited-says h c.freeze_by_plan-found.new.self c.note_first_death.new.self n c.args.cutoff.0 horizon actions _ c.requires.within (plan-at h n horizon page actions at exact)
    c.freeze_by_plan-found.ensures.freezes c.note_first_death.ensures

pub returns-else-is_empty : goal.returns-else-is_empty
returns-else-is_empty c =
    let h = c.args.self.now in
    let n = c.args.number in
    let horizon = c.args.horizon.0 in
    let page = c.page_at.result.now in
    let actions = c.plan-plan.result.actions.items in
    let at : slice_get h.pages.pages n ≡ Some page = subst (λ (v : HeapView). slice_get v.pages.pages n ≡ Some page) c.self.view_is c.page_at.ensures in
    let exact = subst (λ (v : HeapView). IsPlan v.statuses horizon page.slots actions) c.self.view_is c.plan-plan.ensures.exact in
    visited-says h c.freeze_by_plan-found.new.self c.freeze_by_plan-found.new.self n c.args.cutoff.0 horizon actions _ c.requires.within (plan-at h n horizon page actions at exact)
    c.freeze_by_plan-found.ensures.freezes refl
