use Rattle.std.proofs.Common.{subst, sym}
use Rattle.heap_pages.specs.View.{PagesView}
use Rattle.heap_write.specs.declared.target.Target.TheVariants.{Page}
use Rattle.heap_write.specs.Growth.{IsReserved}
use Rattle.heap_write.proofs.PlaceLemmas.{page-place}
use Rattle.heap_write.proofs.target.reserve_place.Goals as goal

pub returns-in-Page-clause-ready : goal.returns-in-Page-clause-ready
returns-in-Page-clause-ready c =
    let n = c.in-Page.number in
    subst (λ (p : PagesView). IsReserved p c.args.size (Page n)) (sym c.place_for.ensures.same) (page-place c.args.pages.now.pages c.args.limit c.args.size n c.in-Page.ensures.place)
