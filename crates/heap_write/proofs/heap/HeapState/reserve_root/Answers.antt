use Rattle.std.proofs.Common.{refl, subst}
use Rattle.std.specs.Prelude.{OnErr}
use Rattle.std.proofs.lemmas.Result.{IfOk-weaker, on_err_weaker}
use Rattle.heap_write.specs.Heap.{HeapView}
use Rattle.heap_write.specs.Refusals.{RootNeedsMemory}
use Rattle.heap_pages.specs.Choice.{IsPlaceFor}
use Rattle.heap_pages.specs.declared.pages.Placement.TheVariants.{NewPage}
use Rattle.tuple_header.specs.Version.{rounded_size_of}
use Rattle.heap_write.specs.Growth.{place_of_target}
use Rattle.heap_write.specs.Steps.{IsChosen}
use Rattle.heap_write.specs.contracts.heap.HeapState.{the_view}
use Rattle.heap_write.proofs.PageLemmas.{keeps-viewed}
use Rattle.heap_write.proofs.Reserving.{chosen-kept, needs-memory}
use Rattle.heap_write.proofs.HintLemmas.{hints-same_ids, hints-grown}
use Rattle.heap_write.proofs.heap.HeapState.reserve_root.Goals as goal

pub returns-clause-keeps : goal.returns-clause-keeps
returns-clause-keeps c = keeps-viewed (the_view c.self.inside) _ _ c.self.view_is c.reserve_place.ensures.same c.reserve_ids.ensures.ids c.make_room.ensures.same refl

pub returns-clause-chosen : goal.returns-clause-chosen
returns-clause-chosen c =
    let h : HeapView = record { pages = c.reserve_place.new.pages; statuses = c.reserve_ids.new.statuses; indexes = c.make_room.new.self; max_pages = c.self.inside.max_pages } in
    let size = rounded_size_of c.args.row.now in
    IfOk-weaker c.reserve_place.result (λ found. IsPlaceFor c.self.inside.pages.pages c.self.inside.max_pages c.row_size.result (place_of_target found)) (λ found. IsChosen h size found)
    (λ found chosen. chosen-kept c.self.inside.pages h size found c.reserve_place.ensures.same
    (subst (λ n. IsPlaceFor c.self.inside.pages.pages c.self.inside.max_pages n (place_of_target found)) c.row_size.ensures.value chosen)) c.reserve_place.ensures.chosen

pub returns-clause-needs : goal.returns-clause-needs
returns-clause-needs c =
    let h = the_view c.self.inside in
    subst (λ (h : HeapView). OnErr c.reserve_place.result (RootNeedsMemory h c.args.own.now c.args.row.now)) c.self.view_is
    (on_err_weaker c.reserve_place.result (λ needs. (needs-memory h c.args.own.now c.args.row.now
    (subst (λ size. IsPlaceFor h.pages.pages h.max_pages size NewPage) c.row_size.ensures.value needs)).1) c.reserve_place.ensures.needs)

pub invariant_of-self : goal.invariant_of-self
invariant_of-self c = (
  c.self.invariant.0,
  hints-same_ids c.self.inside.statuses c.reserve_ids.new.statuses c.self.inside.pages.pages c.self.inside.hints.pages c.reserve_ids.ensures.ids c.self.invariant.1,
)

pub invariant_of-self-in_err-make_room : goal.invariant_of-self-in_err-make_room
invariant_of-self-in_err-make_room c = (
  c.self.invariant.0,
  hints-same_ids c.self.inside.statuses c.reserve_ids.new.statuses c.self.inside.pages.pages c.self.inside.hints.pages c.reserve_ids.ensures.ids c.self.invariant.1,
)

pub invariant_of-self-2 : goal.invariant_of-self-2
invariant_of-self-2 c =
    let placed = c.reserve_place in (
      c.self.invariant.0,
      hints-grown c.self.inside.statuses c.reserve_ids.new.statuses c.self.inside.pages placed.new.pages c.self.inside.hints.pages placed.new.hints.pages c.reserve_ids.ensures.ids placed.ensures.same
          placed.ensures.hints c.self.invariant.1,
    )
