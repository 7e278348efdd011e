use Rattle.std.proofs.Common.{◌≡◌, subst}
use Rattle.std.proofs.lemmas.List.{length-map}
use Rattle.xid_circle.specs.declared.Tid.{Tid}
use Rattle.prune.specs.Actions.{raised}
use Rattle.heap_write.proofs.Freeing.{freed-next, freed-all}
use Rattle.heap_write.proofs.cleaning.free_slots.Goals as goal

pub loop-place-preserved : goal.loop-place-preserved
loop-place-preserved c =
    freed-next c.args.page.now c.loop-place.page c.free_slot.new.page c.args.places.now c.loop-place.place-index (record { page = 0; slot = 0 }) c.requires c.loop-place-test.true
    c.loop-place.invariant c.free_slot.ensures.slots c.free_slot.ensures.change c.free_slot.ensures.flag

pub returns-clause-slots : goal.returns-clause-slots
returns-clause-slots c = (freed-all c.args.page.now c.loop-place.page c.args.places.now c.loop-place.place-index c.loop-place-test.false c.loop-place.invariant).slots

pub returns-clause-change : goal.returns-clause-change
returns-clause-change c dead =
    let freed = freed-all c.args.page.now c.loop-place.page c.args.places.now c.loop-place.place-index c.loop-place-test.false c.loop-place.invariant in
    subst (λ k. c.loop-place.page.change ≡ raised k c.args.page.now.change) (length-map c.args.places.now (λ (tid : Tid). tid.slot)) (freed.change dead)
