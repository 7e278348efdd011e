use Rattle.std.proofs.Common.{length, refl, subst, ap, arith}
use Rattle.heap_pages.specs.View.{PagesView}
use Rattle.heap_pages.specs.Choice.{HasRoom, IsFirstPage}
use Rattle.heap_pages.specs.Choice.IsPlaceFor.{by_byte, by_room}
use Rattle.heap_pages.proofs.pages.Pages.place_for.Goals as goal

pub returns-in-Some-clause-place : goal.returns-in-Some-clause-place
returns-in-Some-clause-place c = by_byte c.in-Some.number c.in-Some.ensures.found refl

pub returns-in-Some-page_with_room-clause-place : goal.returns-in-Some-page_with_room-clause-place
returns-in-Some-page_with_room-clause-place c =
    let n = c.in-Some-page_with_room.number in
    let same = c.page_for.ensures.same in
    let count = ap (λ (p : PagesView). length p.pages) same in
    by_room n c.in_default.ensures.found (omega (arith, c.if-len-limit.false, c.len.ensures.count, count))
    (subst (λ (p : PagesView). IsFirstPage p.pages (HasRoom c.args.size) n) same c.in-Some-page_with_room.ensures) refl
