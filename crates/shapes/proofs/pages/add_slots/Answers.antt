use Rattle.shapes.specs.Shapes.{IsSlotPiece, place_behind}
use Rattle.shapes.proofs.Adding.{one-further}
use Rattle.shapes.proofs.pages.add_slots.Goals as goal

pub loop-i-preserved : goal.loop-i-preserved
loop-i-preserved c =
    one-further (λ e i. IsSlotPiece e.engine.core (place_behind c.args.number i)) c.args.engine.now c.loop-i.engine c.add_slot.new.engine c.loop-i.i c.args.shapes.now.items
    c.loop-i.shapes.items c.add_slot.new.shapes.items c.loop-i.invariant c.in_ok-add_slot.ensures.same c.in_ok-add_slot.ensures.slot
