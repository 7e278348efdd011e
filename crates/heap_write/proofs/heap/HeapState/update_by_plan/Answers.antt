use Rattle.std.proofs.Common.{◌≡◌, ◌≤◌, ◌<◌, inl, inr, Some, slice_get, length, sym, ◌∙◌, subst, arith}
use Rattle.tuple_header.specs.Version.{rounded_size_of}
use Rattle.page_slots.specs.View.{PageView}
use Rattle.page_sheet.specs.Slots.{room_of}
use Rattle.prune.specs.Actions.{CanApply, applied}
use Rattle.prune.specs.Pruning.{IsPlan}
use Rattle.heap_write.specs.Heap.{HeapView, page_on}
use Rattle.heap_write.specs.Refusals.{AnswersUpdate}
use Rattle.heap_write.specs.Steps.{IsPlanOn, IsPlanAround, IsLeftAlone}
use Rattle.heap_write.proofs.PageLemmas.{page-at, there-within}
use Rattle.heap_write.proofs.Plans.{plan-around, named-none, named-goes}
use Rattle.heap_write.proofs.heap.HeapState.update_by_plan.Goals as goal

pub returns-then-is_empty : goal.returns-then-is_empty
returns-then-is_empty c =
    let horizon = c.args.horizon.0 in
    let actions = c.plan_page.new.plan.actions.items in
    let empty = subst (λ names. IsPlanOn c.args.self.now c.args.place.page horizon names) (named-none actions c.is_empty.result c.is_empty.ensures c.if-is_empty.true) c.plan_page.ensures.exact in
    let done = c.update_unpruned in
    subst (λ (v : HeapView). IsLeftAlone v c.args.place horizon → AnswersUpdate v done.new.self c.args.own.now done.new.own c.args.place c.args.row.now horizon done.result)
    (c.note_first_death.ensures ∙ c.plan_page.ensures.same) (done.ensures horizon) (inl empty)

pub returns-then-names : goal.returns-then-names
returns-then-names c =
    let horizon = c.args.horizon.0 in
    let actions = c.plan_page.new.plan.actions.items in
    let done = c.update_unpruned-then-names in
    subst (λ (v : HeapView). IsLeftAlone v c.args.place horizon → AnswersUpdate v done.new.self c.args.own.now done.new.own c.args.place c.args.row.now horizon done.result)
    c.plan_page.ensures.same (done.ensures horizon)
    (inr (named-goes c.args.self.now c.args.place horizon actions c.requires.may.there c.plan_page.ensures.exact (c.names.ensures.0 c.if-names.true)))

pub page_at-page-requires : goal.page_at-page-requires
page_at-page-requires c =
    subst (λ (v : HeapView). c.args.place.page < length v.pages.pages) (sym (c.self-2.view_is ∙ c.plan_page.ensures.same)) (there-within c.args.self.now c.args.place c.requires.may.there)

pub room_after-requires-clause-planned : goal.room_after-requires-clause-planned
room_after-requires-clause-planned c =
    let h = c.args.self.now in
    let n = c.args.place.page in
    let page = c.page_at-page.result.now in
    let actions = c.plan_page.new.plan.actions.items in
    let at : slice_get h.pages.pages n ≡ Some page =
    subst (λ (v : HeapView). slice_get v.pages.pages n ≡ Some page) (c.self-2.view_is ∙ c.plan_page.ensures.same) c.page_at-page.ensures in
    (h.statuses, c.args.horizon.0, subst (λ (p : PageView). IsPlan h.statuses c.args.horizon.0 p.slots actions) (page-at h.pages.pages n page at) c.plan_page.ensures.exact)

pub room_after-requires-clause-can_apply : goal.room_after-requires-clause-can_apply
room_after-requires-clause-can_apply c =
    let h = c.args.self.now in
    let n = c.args.place.page in
    let page = c.page_at-page.result.now in
    let actions = c.plan_page.new.plan.actions.items in
    let at : slice_get h.pages.pages n ≡ Some page =
    subst (λ (v : HeapView). slice_get v.pages.pages n ≡ Some page) (c.self-2.view_is ∙ c.plan_page.ensures.same) c.page_at-page.ensures in
    subst (λ (p : PageView). CanApply (length p.slots) actions) (page-at h.pages.pages n page at) c.plan_page.ensures.can_apply

pub update_on_pruned-requires-clause-around : goal.update_on_pruned-requires-clause-around
update_on_pruned-requires-clause-around c =
    let h = c.args.self.now in
    let place = c.args.place in
    let actions = c.plan_page.new.plan.actions.items in
    subst (λ (v : HeapView). IsPlanAround v place c.as_slice-actions.result.now) (sym c.plan_page.ensures.same) (subst (λ names. IsPlanAround h place names) (sym c.as_slice-actions.ensures.value)
    (plan-around place c.args.horizon.0 actions c.names.result c.plan_page.ensures.exact c.plan_page.ensures.can_apply c.names.ensures c.if-names.false c.requires.may.there))

pub update_off_pruned-requires-clause-around : goal.update_off_pruned-requires-clause-around
update_off_pruned-requires-clause-around c =
    let h = c.args.self.now in
    let place = c.args.place in
    let actions = c.plan_page.new.plan.actions.items in
    subst (λ (v : HeapView). IsPlanAround v place c.as_slice-actions.result.now) (sym c.plan_page.ensures.same) (subst (λ names. IsPlanAround h place names) (sym c.as_slice-actions.ensures.value)
    (plan-around place c.args.horizon.0 actions c.names.result c.plan_page.ensures.exact c.plan_page.ensures.can_apply c.names.ensures c.if-names.false c.requires.may.there))

pub update_on_pruned-requires-clause-fits : goal.update_on_pruned-requires-clause-fits
update_on_pruned-requires-clause-fits c =
    let h = c.args.self.now in
    let n = c.args.place.page in
    let page = c.page_at-page.result.now in
    let actions = c.as_slice-actions.result.now in
    let at : slice_get h.pages.pages n ≡ Some page =
    subst (λ (v : HeapView). slice_get v.pages.pages n ≡ Some page) (c.self-2.view_is ∙ c.plan_page.ensures.same) c.page_at-page.ensures in
    let here : rounded_size_of c.args.row.now ≤ room_of (applied actions page).slots =
    subst (λ names. rounded_size_of c.args.row.now ≤ room_of (applied names page).slots) (sym c.as_slice-actions.ensures.value)
    (omega (arith, c.row_size.ensures.value, c.room_after.ensures, c.if-row_size-room_after.true)) in
    subst (λ (v : HeapView). rounded_size_of c.args.row.now ≤ room_of (applied actions (page_on v n)).slots) (sym c.plan_page.ensures.same)
    (subst (λ (p : PageView). rounded_size_of c.args.row.now ≤ room_of (applied actions p).slots) (sym (page-at h.pages.pages n page at)) here)

pub update_off_pruned-requires-clause-full : goal.update_off_pruned-requires-clause-full
update_off_pruned-requires-clause-full c =
    let h = c.args.self.now in
    let n = c.args.place.page in
    let page = c.page_at-page.result.now in
    let actions = c.as_slice-actions.result.now in
    let at : slice_get h.pages.pages n ≡ Some page =
    subst (λ (v : HeapView). slice_get v.pages.pages n ≡ Some page) (c.self-2.view_is ∙ c.plan_page.ensures.same) c.page_at-page.ensures in
    let here : room_of (applied actions page).slots < rounded_size_of c.args.row.now =
    subst (λ names. room_of (applied names page).slots < rounded_size_of c.args.row.now) (sym c.as_slice-actions.ensures.value)
    (omega (arith, c.row_size.ensures.value, c.room_after.ensures, c.if-row_size-room_after.false)) in
    subst (λ (v : HeapView). room_of (applied actions (page_on v n)).slots < rounded_size_of c.args.row.now) (sym c.plan_page.ensures.same)
    (subst (λ (p : PageView). room_of (applied actions p).slots < rounded_size_of c.args.row.now) (sym (page-at h.pages.pages n page at)) here)

pub returns-then-row_size-room_after : goal.returns-then-row_size-room_after
returns-then-row_size-room_after c =
    let horizon = c.args.horizon.0 in
    let n = c.args.place.page in
    let actions = c.as_slice-actions.result.now in
    let done = c.update_on_pruned in
    subst (λ (v : HeapView). IsPlanOn v n horizon actions → AnswersUpdate v done.new.self c.args.own.now done.new.own c.args.place c.args.row.now horizon done.result) c.plan_page.ensures.same
    (done.ensures horizon) (subst (λ names. IsPlanOn c.args.self.now n horizon names) (sym c.as_slice-actions.ensures.value) c.plan_page.ensures.exact)

pub returns-else-row_size-room_after : goal.returns-else-row_size-room_after
returns-else-row_size-room_after c =
    let horizon = c.args.horizon.0 in
    let n = c.args.place.page in
    let actions = c.as_slice-actions.result.now in
    let done = c.update_off_pruned in
    subst (λ (v : HeapView). IsPlanOn v n horizon actions → AnswersUpdate v done.new.self c.args.own.now done.new.own c.args.place c.args.row.now horizon done.result) c.plan_page.ensures.same
    (done.ensures horizon) (subst (λ names. IsPlanOn c.args.self.now n horizon names) (sym c.as_slice-actions.ensures.value) c.plan_page.ensures.exact)
