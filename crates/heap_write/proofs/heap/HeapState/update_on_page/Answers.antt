use Rattle.std.proofs.Common.{◌≤◌, refl, sym, subst}
use Rattle.std.proofs.lemmas.Bool.{iff_false}
use Rattle.tuple_header.specs.Version.{rounded_size_of}
use Rattle.page_sheet.specs.Slots.{room_of}
use Rattle.commit_status.specs.Window.{IsWindow}
use Rattle.heap_write.specs.Heap.{HeapView}
use Rattle.write_ids.specs.Ids.{NeedsFreeze}
use Rattle.heap_write.specs.Writes.PrunesIfFull.{has_room}
use Rattle.heap_write.specs.Writes.UpdatesOnPage.{heap_only, as_root}
use Rattle.heap_write.proofs.Replacing.{is-replaceable, replaceable-kept}
use Rattle.heap_write.proofs.PageLemmas.{there-within}
use Rattle.heap_write.proofs.IdlePages.{kept-there}
use Rattle.heap_write.proofs.Writing.{grown-none, here-grown, cold-grown}
use Rattle.heap_write.proofs.Updating.{kept-slots, on_page-needs, answers-freeze, answers-memory, answers-here}
use Rattle.heap_write.proofs.heap.HeapState.update_on_page.Goals as goal

pub returns-then-needs_freeze : goal.returns-then-needs_freeze
returns-then-needs_freeze c = λ horizon.
    let needs = subst (λ (h : HeapView). NeedsFreeze h.statuses c.args.own.now) c.self.view_is (c.needs_freeze.ensures.0 c.if-needs_freeze.true) in
    answers-freeze c.args.self.now c.args.own.now c.args.place c.args.row.now horizon needs
    (subst (λ (h : HeapView). IsWindow h.statuses) c.self.view_is c.fact_window.ensures)

pub write_hot_update-requires-clause-may : goal.write_hot_update-requires-clause-may
write_hot_update-requires-clause-may c =
    let reserved = c.reserve_ids_for-reserved in
    let may = is-replaceable c.args.own.now c.args.place c.needs_freeze.result c.self.view_is c.requires.newest c.needs_freeze.ensures c.if-needs_freeze.false c.requires.there in
    replaceable-kept c.args.self.now reserved.new.self c.args.own.now reserved.new.own c.args.place reserved.ensures.keeps reserved.ensures.own may

pub write_hot_update-requires-clause-room : goal.write_hot_update-requires-clause-room
write_hot_update-requires-clause-room c =
    let slots = kept-slots c.args.self.now c.reserve_ids_for-reserved.new.self c.args.place.page c.reserve_ids_for-reserved.ensures.keeps in
    subst (λ s. rounded_size_of c.args.row.now ≤ room_of s) (sym slots) c.requires.room

pub cold_update-requires-clause-may : goal.cold_update-requires-clause-may
cold_update-requires-clause-may c =
    let reserved = c.reserve_ids_for-reserved in
    let may = is-replaceable c.args.own.now c.args.place c.needs_freeze.result c.self.view_is c.requires.newest c.needs_freeze.ensures c.if-needs_freeze.false c.requires.there in
    replaceable-kept c.args.self.now reserved.new.self c.args.own.now reserved.new.own c.args.place reserved.ensures.keeps reserved.ensures.own may

pub cold_update-requires-clause-ready : goal.cold_update-requires-clause-ready
cold_update-requires-clause-ready c =
    let grown = c.reserve_ids_for-reserved.new.self in
    let keeps = c.reserve_ids_for-reserved.ensures.keeps in
    let slots = kept-slots c.args.self.now grown c.args.place.page keeps in
    (there-within grown c.args.place (kept-there c.args.self.now grown c.args.place keeps c.requires.there), subst (λ s. rounded_size_of c.args.row.now ≤ room_of s) (sym slots) c.requires.room)

pub returns-in-Ok : goal.returns-in-Ok
returns-in-Ok c = λ horizon.
    let h = c.args.self.now in
    let reserved = c.reserve_ids_for-reserved in
    let keeps = reserved.ensures.keeps in
    let done = c.write_hot_update in
    let may = is-replaceable c.args.own.now c.args.place c.needs_freeze.result c.self.view_is c.requires.newest c.needs_freeze.ensures c.if-needs_freeze.false c.requires.there in
    let grown = grown-none h reserved.new.self c.args.place.page keeps.pages keeps.marks keeps.entries in
    let replaces = here-grown h reserved.new.self done.new.self c.args.place done.result.0 c.args.row.now grown done.ensures.replaces in
    answers-here horizon done.result may c.requires.room keeps reserved.ensures.own reserved.ensures.none done.ensures.under (heap_only (c.requires.values.0 c.if-keeps_values.true) replaces)

pub returns-in-Ok-2 : goal.returns-in-Ok-2
returns-in-Ok-2 c = λ horizon.
    let h = c.args.self.now in
    let reserved = c.reserve_ids_for-reserved in
    let keeps = reserved.ensures.keeps in
    let done = c.cold_update in
    let may = is-replaceable c.args.own.now c.args.place c.needs_freeze.result c.self.view_is c.requires.newest c.needs_freeze.ensures c.if-needs_freeze.false c.requires.there in
    let grown = grown-none h reserved.new.self c.args.place.page keeps.pages keeps.marks keeps.entries in
    let replaces = cold-grown h reserved.new.self done.new.self c.args.place done.result.0 c.args.row.now grown done.ensures.replaces in
    answers-here horizon done.result may c.requires.room keeps reserved.ensures.own reserved.ensures.none done.ensures.under (as_root (iff_false c.requires.values c.if-keeps_values.false) replaces)

pub returns-in-Err : goal.returns-in-Err
returns-in-Err c = λ horizon.
    let h = c.args.self.now in
    let own = c.args.own.now in
    let reserved = c.reserve_ids_for-reserved in
    let may = is-replaceable c.args.own.now c.args.place c.needs_freeze.result c.self.view_is c.requires.newest c.needs_freeze.ensures c.if-needs_freeze.false c.requires.there in
    let needs = on_page-needs h h own c.args.place c.args.row.now horizon c.args.keeps_values (has_room c.requires.room refl) c.requires.room
    c.requires.values c.in-Err.ensures.needs in
    answers-memory h reserved.new.self own reserved.new.own c.args.place c.args.row.now horizon may.free needs reserved.ensures.keeps reserved.ensures.own
    (subst (λ (h : HeapView). IsWindow h.statuses) c.self-2.view_is c.fact_window-2.ensures)
