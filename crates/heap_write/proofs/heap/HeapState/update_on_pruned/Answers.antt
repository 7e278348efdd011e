use Rattle.std.proofs.Common.{◌≤◌, List, refl, sym, subst}
use Rattle.std.proofs.lemmas.Bool.{iff_false}
use Rattle.tuple_header.specs.Version.{rounded_size_of}
use Rattle.page_sheet.specs.declared.slot.Slot.{Slot}
use Rattle.page_sheet.specs.Slots.{room_of}
use Rattle.commit_status.specs.Window.{IsWindow}
use Rattle.heap_write.specs.Heap.{HeapView}
use Rattle.heap_write.specs.Steps.{with_applied}
use Rattle.heap_write.specs.Writes.Replaces.{on_page}
use Rattle.heap_write.specs.Writes.UpdatesOnPage.{heap_only, as_root}
use Rattle.heap_write.proofs.PageLemmas.{there-within}
use Rattle.heap_write.proofs.Replacing.{replaceable-kept, once-pruned, pruned-values}
use Rattle.heap_write.proofs.Updating.{answers-memory, answers-done}
use Rattle.heap_write.proofs.Plans.{can-kept, stays-needs}
use Rattle.heap_write.proofs.heap.HeapState.update_on_pruned.Goals as goal

pub hot_update_on_pruned-requires-clause-may : goal.hot_update_on_pruned-requires-clause-may
hot_update_on_pruned-requires-clause-may c =
    let reserved = c.reserve_ids_for-reserved in
    replaceable-kept c.args.self.now reserved.new.self c.args.own.now reserved.new.own c.args.place reserved.ensures.keeps reserved.ensures.own c.requires.may

pub do_actions-requires-clause-can_apply : goal.do_actions-requires-clause-can_apply
do_actions-requires-clause-can_apply c =
    can-kept c.args.self.now c.reserve_ids_for-reserved.new.self c.args.place.page c.args.actions.now c.reserve_ids_for-reserved.ensures.keeps c.requires.around.can_apply

pub cold_update-requires-clause-may : goal.cold_update-requires-clause-may
cold_update-requires-clause-may c =
    let grown = c.reserve_ids_for-reserved.ensures in
    (once-pruned c.do_actions.new.self grown.keeps grown.own c.do_actions.ensures c.requires.around c.requires.may).may

pub cold_update-requires-clause-ready : goal.cold_update-requires-clause-ready
cold_update-requires-clause-ready c =
    let grown = c.reserve_ids_for-reserved.ensures in
    let pruned = once-pruned c.do_actions.new.self grown.keeps grown.own c.do_actions.ensures c.requires.around c.requires.may in
    (there-within c.do_actions.new.self c.args.place pruned.may.there, subst (λ (l : List Slot). rounded_size_of c.args.row.now ≤ room_of l) (sym pruned.slots) c.requires.fits)

pub returns-in-Ok : goal.returns-in-Ok
returns-in-Ok c = λ horizon plan.
    let reserved = c.reserve_ids_for-reserved in
    let grown = reserved.ensures in
    let done = c.hot_update_on_pruned in
    let under = done.ensures.under in
    let ready = with_applied reserved.new.self c.args.place.page c.args.actions.now in
    let pruned = once-pruned ready grown.keeps grown.own refl c.requires.around c.requires.may in
    let room = subst (λ (l : List Slot). rounded_size_of c.args.row.now ≤ room_of l) (sym pruned.slots) c.requires.fits in
    let keeps = (pruned-values c.args.row.now grown.keeps refl c.requires.around pruned).0 (c.keeps_values-heap_only.ensures.0 c.if-heap_only.true) in
    answers-done c.args.self.now reserved.new.self ready done.new.self c.args.own.now reserved.new.own done.new.own c.args.place c.args.row.now horizon done.result c.requires.may.free
    (pruned.readies horizon (rounded_size_of c.args.row.now) c.requires.room plan) refl refl grown.keeps grown.own grown.none pruned.may.there
    (record { takes = under.takes; max_pages = under.max_pages; window = under.window; normal = under.normal }) (on_page room (heap_only keeps done.ensures.replaces))

pub returns-in-Ok-2 : goal.returns-in-Ok-2
returns-in-Ok-2 c = λ horizon plan.
    let reserved = c.reserve_ids_for-reserved in
    let grown = reserved.ensures in
    let done = c.cold_update in
    let ready = c.do_actions.new.self in
    let pruned = once-pruned ready grown.keeps grown.own c.do_actions.ensures c.requires.around c.requires.may in
    let room = subst (λ (l : List Slot). rounded_size_of c.args.row.now ≤ room_of l) (sym pruned.slots) c.requires.fits in
    let same = pruned-values c.args.row.now grown.keeps c.do_actions.ensures c.requires.around pruned in
    answers-done c.args.self.now reserved.new.self ready done.new.self c.args.own.now reserved.new.own done.new.own c.args.place c.args.row.now horizon done.result c.requires.may.free
    (pruned.readies horizon (rounded_size_of c.args.row.now) c.requires.room plan) pruned.statuses pruned.max_pages grown.keeps grown.own grown.none pruned.may.there done.ensures.under
    (on_page room (as_root (λ keeps. iff_false c.keeps_values-heap_only.ensures c.if-heap_only.false (same.1 keeps)) done.ensures.replaces))

pub returns-in-Err : goal.returns-in-Err
returns-in-Err c = λ horizon plan.
    let h = c.args.self.now in
    let own = c.args.own.now in
    let reserved = c.reserve_ids_for-reserved in
    let needs = stays-needs h own c.args.place c.args.row.now horizon c.args.actions.now c.keeps_values-heap_only.result c.requires.may.there c.requires.room plan
    c.requires.fits c.keeps_values-heap_only.ensures c.in-Err.ensures.needs in
    answers-memory h reserved.new.self own reserved.new.own c.args.place c.args.row.now horizon c.requires.may.free needs reserved.ensures.keeps reserved.ensures.own
    (subst (λ (h : HeapView). IsWindow h.statuses) c.self.view_is c.fact_window.ensures)
