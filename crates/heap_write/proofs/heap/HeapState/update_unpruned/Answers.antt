use Rattle.std.proofs.Common.{◌<◌, List, refl, sym, subst}
use Rattle.tuple_header.specs.Version.{rounded_size_of}
use Rattle.page_sheet.specs.declared.slot.Slot.{Slot}
use Rattle.page_sheet.specs.Slots.{room_of}
use Rattle.commit_status.specs.Window.{IsWindow}
use Rattle.heap_write.specs.Heap.{HeapView}
use Rattle.heap_write.proofs.Updating.{kept-slots, answers-memory, answers-elsewhere}
use Rattle.heap_write.proofs.Replacing.{replaceable-kept}
use Rattle.heap_write.proofs.Plans.{left-readies, left-needs}
use Rattle.heap_write.proofs.heap.HeapState.update_unpruned.Goals as goal

pub update_elsewhere-requires-clause-may : goal.update_elsewhere-requires-clause-may
update_elsewhere-requires-clause-may c =
    let reserved = c.reserve_root-reserved in
    replaceable-kept c.args.self.now reserved.new.self c.args.own.now reserved.new.own c.args.place reserved.ensures.keeps reserved.ensures.own c.requires.may

pub update_elsewhere-requires-clause-room : goal.update_elsewhere-requires-clause-room
update_elsewhere-requires-clause-room c =
    let slots = kept-slots c.args.self.now c.reserve_root-reserved.new.self c.args.place.page c.reserve_root-reserved.ensures.keeps in
    subst (λ (l : List Slot). room_of l < rounded_size_of c.args.row.now) (sym slots) c.requires.room

pub returns-in-Ok : goal.returns-in-Ok
returns-in-Ok c = λ horizon left.
    let h = c.args.self.now in
    let own = c.args.own.now in
    let reserved = c.reserve_root-reserved in
    let ready = reserved.new.self in
    let keeps = reserved.ensures.keeps in
    let done = c.update_elsewhere in
    let readies = left-readies h ready c.args.place horizon (rounded_size_of c.args.row.now) keeps c.requires.may.there c.requires.room left in
    let there = (replaceable-kept h ready own reserved.new.own c.args.place keeps reserved.ensures.own c.requires.may).there in
    answers-elsewhere h ready ready done.new.self own reserved.new.own done.new.own c.args.place c.args.row.now horizon done.result c.requires.may.free readies refl refl
    keeps reserved.ensures.own reserved.ensures.none there done.ensures.under done.ensures.replaces done.ensures.fault done.ensures.err done.ensures.window

pub returns-in-Err : goal.returns-in-Err
returns-in-Err c = λ horizon left.
    let h = c.args.self.now in
    let own = c.args.own.now in
    let reserved = c.reserve_root-reserved in
    let needs = left-needs h own c.args.place c.args.row.now horizon c.requires.may.there c.requires.room left c.in-Err.ensures.needs in
    answers-memory h reserved.new.self own reserved.new.own c.args.place c.args.row.now horizon c.requires.may.free needs reserved.ensures.keeps reserved.ensures.own
    (subst (λ (h : HeapView). IsWindow h.statuses) c.self.view_is c.fact_window.ensures)
