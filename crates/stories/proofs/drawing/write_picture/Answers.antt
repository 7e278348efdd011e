use Rattle.std.proofs.Common.{refl, Ok, Err}
use Rattle.std.proofs.KnownBytes.{Appends-nil}
use Rattle.shapes.specs.Pictures.{pages_asked}
use Rattle.stories.proofs.DrawOutcomeLemmas.{fault-told, undrawn, closed, closed-well, caused-drawn}
use Rattle.stories.proofs.drawing.write_picture.Goals as goal

pub returns-in-Err-clause-written : goal.returns-in-Err-clause-written
returns-in-Err-clause-written g c =
    undrawn c.args.engine.now c.args.pages.now c.fault_of.result _ (rw c.fault_of.ensures (fault-told _ _ c.in-Err.fault c.in-Err.ensures.fault)) (Appends-nil _)

pub returns-in-Err-clause-caused : goal.returns-in-Err-clause-caused
returns-in-Err-clause-caused g c =
    caused-drawn _ c.args.engine.now (pages_asked c.args.pages.now c.args.engine.now.engine.core) c.fault_of.result (rw c.fault_of.ensures (fault-told _ _ c.in-Err.fault c.in-Err.ensures.fault))

pub returns-in-Ok-close-clause-written : goal.returns-in-Ok-close-clause-written
returns-in-Ok-close-clause-written g c =
    closed-well c.args.engine.now c.args.pages.now c.draw_asked.new.out.items (Ok tt) c.close.new.log _ _ (rw c.requires at c.in-Ok.ensures.drawn) c.in-Ok-close.ensures refl

pub returns-in-Err-close-clause-written : goal.returns-in-Err-close-clause-written
returns-in-Err-close-clause-written g c =
    (closed c.args.engine.now c.args.pages.now c.draw_asked.new.out.items (Err c.in-Err-close.fault) c.close.new.log _ _ (rw c.requires at c.in-Ok.ensures.drawn) c.in-Err-close.ensures c.in-Err-close.fault refl).0

pub returns-in-Err-close-clause-caused : goal.returns-in-Err-close-clause-caused
returns-in-Err-close-clause-caused g c =
    (closed c.args.engine.now c.args.pages.now c.draw_asked.new.out.items (Err c.in-Err-close.fault) c.close.new.log _ _ (rw c.requires at c.in-Ok.ensures.drawn) c.in-Err-close.ensures c.in-Err-close.fault refl).1
