use Rattle.std.proofs.Common.{◌<◌, List, sym, subst}
use Rattle.tuple_header.specs.Version.{rounded_size_of}
use Rattle.page_sheet.specs.declared.slot.Slot.{Slot}
use Rattle.page_sheet.specs.Slots.{room_of}
use Rattle.commit_status.specs.Window.{IsWindow}
use Rattle.heap_write.specs.Heap.{HeapView}
use Rattle.heap_write.specs.Growth.{IsReserved}
use Rattle.heap_write.proofs.PageLemmas.{there-within}
use Rattle.heap_write.proofs.Replacing.{replaceable-kept, once-pruned}
use Rattle.heap_write.proofs.Updating.{some-weaker, answers-memory, answers-elsewhere}
use Rattle.heap_write.proofs.Plans.{can-kept, applied-chosen, applied-ready, moves-needs}
use Rattle.heap_write.proofs.heap.HeapState.update_off_pruned.Goals as goal

pub do_actions-requires-clause-within : goal.do_actions-requires-clause-within
do_actions-requires-clause-within c =
    let reserved = c.reserve_root-reserved in
    let grown = reserved.new.self in
    there-within grown c.args.place (replaceable-kept c.args.self.now grown c.args.own.now reserved.new.own c.args.place reserved.ensures.keeps reserved.ensures.own c.requires.may).there

pub do_actions-requires-clause-can_apply : goal.do_actions-requires-clause-can_apply
do_actions-requires-clause-can_apply c =
    can-kept c.args.self.now c.reserve_root-reserved.new.self c.args.place.page c.args.actions.now c.reserve_root-reserved.ensures.keeps c.requires.around.can_apply

pub update_elsewhere-requires-clause-may : goal.update_elsewhere-requires-clause-may
update_elsewhere-requires-clause-may c =
    let grown = c.reserve_root-reserved.ensures in
    (once-pruned c.do_actions.new.self grown.keeps grown.own c.do_actions.ensures c.requires.around c.requires.may).may

pub update_elsewhere-requires-clause-room : goal.update_elsewhere-requires-clause-room
update_elsewhere-requires-clause-room c =
    let grown = c.reserve_root-reserved.ensures in
    let pruned = once-pruned c.do_actions.new.self grown.keeps grown.own c.do_actions.ensures c.requires.around c.requires.may in
    subst (λ (l : List Slot). room_of l < rounded_size_of c.args.row.now) (sym pruned.slots) c.requires.full

pub update_elsewhere-requires-clause-chosen : goal.update_elsewhere-requires-clause-chosen
update_elsewhere-requires-clause-chosen c =
    let reserved = c.reserve_root-reserved in
    let grown = reserved.ensures in
    let pruned = once-pruned c.do_actions.new.self grown.keeps grown.own c.do_actions.ensures c.requires.around c.requires.may in
    applied-chosen c.args.self.now reserved.new.self c.do_actions.new.self c.args.place.page (rounded_size_of c.args.row.now) c.args.actions.now c.in-Ok.target pruned.within grown.keeps
    c.do_actions.ensures c.requires.room c.requires.full c.in-Ok.ensures.chosen

pub update_elsewhere-requires-clause-ready : goal.update_elsewhere-requires-clause-ready
update_elsewhere-requires-clause-ready c =
    let h = c.args.self.now in
    let size = rounded_size_of c.args.row.now in
    let grown = c.reserve_root-reserved.new.self in
    some-weaker c.in-Ok.target (λ target. IsReserved grown.pages size target) (λ target. IsReserved c.do_actions.new.self.pages size target)
    (λ target is_ready. applied-ready h grown c.do_actions.new.self c.args.place.page size c.args.actions.now target c.reserve_root-reserved.ensures.keeps c.do_actions.ensures
    c.requires.room is_ready) c.in-Ok.ensures.ready

pub returns-in-Ok : goal.returns-in-Ok
returns-in-Ok c = λ horizon plan.
    let reserved = c.reserve_root-reserved in
    let grown = reserved.ensures in
    let done = c.update_elsewhere in
    let pruned = once-pruned c.do_actions.new.self grown.keeps grown.own c.do_actions.ensures c.requires.around c.requires.may in
    answers-elsewhere c.args.self.now reserved.new.self c.do_actions.new.self done.new.self c.args.own.now reserved.new.own done.new.own c.args.place c.args.row.now horizon done.result
    c.requires.may.free (pruned.readies horizon (rounded_size_of c.args.row.now) c.requires.room plan) pruned.statuses pruned.max_pages grown.keeps grown.own grown.none pruned.may.there
    done.ensures.under done.ensures.replaces done.ensures.fault done.ensures.err done.ensures.window

pub returns-in-Err : goal.returns-in-Err
returns-in-Err c = λ horizon plan.
    let h = c.args.self.now in
    let own = c.args.own.now in
    let reserved = c.reserve_root-reserved in
    let needs = moves-needs h own c.args.place c.args.row.now horizon c.args.actions.now c.requires.may.there c.requires.room plan c.requires.full c.in-Err.ensures.needs in
    answers-memory h reserved.new.self own reserved.new.own c.args.place c.args.row.now horizon c.requires.may.free needs reserved.ensures.keeps reserved.ensures.own
    (subst (λ (h : HeapView). IsWindow h.statuses) c.self.view_is c.fact_window.ensures)
