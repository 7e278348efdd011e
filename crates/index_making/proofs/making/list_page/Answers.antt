use Rattle.std.proofs.Common.{suc, refl, arith}
use Rattle.index_lookup.specs.Pages.{page_slots_of}
use Rattle.index_entries.proofs.SetLemmas.{on_err}
use Rattle.index_making.proofs.ListLemmas.{page-begun, place-on_page, current-on_page, last-on_page}
use Rattle.index_making.proofs.making.list_page.Goals as goal

pub loop-slot-init : goal.loop-slot-init
loop-slot-init c =
    page-begun c.args.reader.now.statuses.now (page_slots_of c.args.pages.now) (suc c.args.column) c.args.number c.args.filling.now c.requires.before

pub returns-in_err-enter_current-clause-refused : goal.returns-in_err-enter_current-clause-refused
returns-in_err-enter_current-clause-refused c =
    let w = c.args.reader.now.statuses.now in
    on_err c.from_residual.result _ (current-on_page w w c.args.pages.now.pages c.args.number c.loop-slot.slot c.page_at-page.result.now c.page_at-page.ensures
    refl c.in_err-enter_current.ensures.refused)

pub loop-slot-preserved : goal.loop-slot-preserved
loop-slot-preserved c =
    let w = c.args.reader.now.statuses.now in
    place-on_page w w c.args.pages.now.pages (suc c.args.column) c.args.number c.loop-slot.slot c.page_at-page.result.now c.loop-slot.filling
    c.enter_current.new.filling c.page_at-page.ensures refl c.loop-slot.invariant c.in_ok-enter_current.ensures.adds

pub returns-clause-lists : goal.returns-clause-lists
returns-clause-lists c =
    last-on_page c.args.reader.now.statuses.now c.args.pages.now.pages (suc c.args.column) c.args.number c.loop-slot.slot c.page_at-page.result.now
    c.loop-slot.filling c.page_at-page.ensures (omega (arith, c.slots-slot-end.ensures.count, c.loop-slot-test.false)) c.loop-slot.invariant
