use Rattle.std.proofs.Common.{◌≡◌, None, slice_get, refl, arith, subst, sym}
use Rattle.page_sheet.specs.Slots.{room_of}
use Rattle.heap_write.specs.Heap.{HeapView, page_on}
use Rattle.heap_write.proofs.PageLemmas.{room-none, keeps-nothing}
use Rattle.heap_write.proofs.heap.HeapState.fits_beside.Goals as goal

pub returns-in-None-clause-room : goal.returns-in-None-clause-room
returns-in-None-clause-room c =
    let free = subst (λ (h : HeapView). room_of (page_on h c.args.place.page).slots ≡ 8164) c.self.view_is (room-none c.self.inside.pages.pages c.args.place.page (sym c.in-None.ensures)) in
    (λ yes. omega (arith, free, c.row_size-size.ensures.value, c.row_size-size.ensures.limit), λ fits. refl)

pub returns-in-None-clause-values : goal.returns-in-None-clause-values
returns-in-None-clause-values c =
    let none = subst (λ (h : HeapView). slice_get h.pages.pages c.args.place.page ≡ None) c.self.view_is (sym c.in-None.ensures) in
    (λ yes. keeps-nothing c.args.self.now c.args.place c.args.row.now none, λ keeps. refl)
