use Rattle.std.proofs.Common.{◌∙◌, List, sym, subst}
use Rattle.xid_circle.specs.declared.Tid.{Tid}
use Rattle.dead_places.specs.Places.{AddsPlace, IsRoomFor}
use Rattle.dead_places.proofs.PlaceLemmas.{adds-inserted, inserted_last}
use Rattle.dead_places.proofs.dead_set.put.Goals as goal

pub returns-in-Some-clause-adds : goal.returns-in-Some-clause-adds
returns-in-Some-clause-adds c =
    let room = subst (λ (xs : List Tid). IsRoomFor xs c.args.tid c.in-Some.number) c.as_slice.ensures.value c.in-Some.ensures.room in
    subst (λ (xs : List Tid). AddsPlace c.args.tids.now.items xs c.args.tid) (sym c.insert.ensures.items)
    (adds-inserted c.args.tids.now.items c.args.tid c.in-Some.number c.requires.ascending room)

pub returns-in-Some-clause-last : goal.returns-in-Some-clause-last
returns-in-Some-clause-last c below =
    let room = subst (λ (xs : List Tid). IsRoomFor xs c.args.tid c.in-Some.number) c.as_slice.ensures.value c.in-Some.ensures.room in
    c.insert.ensures.items ∙ inserted_last c.args.tids.now.items c.args.tid c.in-Some.number room below
