use Rattle.std.proofs.Common.{refl, Ok, Err, inl}
use Rattle.std.proofs.KnownBytes.{Appends-nil}
use Rattle.stories.proofs.OutcomeLemmas.{page-closed, page-closed-well}
use Rattle.stories.proofs.story.write_page.Goals as goal

pub returns-in-Err-clause-writes : goal.returns-in-Err-clause-writes
returns-in-Err-clause-writes g c = rw c.no_memory.ensures (tt, inl (Appends-nil _))

pub returns-in-Ok-close-clause-writes : goal.returns-in-Ok-close-clause-writes
returns-in-Ok-close-clause-writes g c =
    page-closed-well c.args.items.now c.args.told.now c.put_together.new.page.items (Ok tt) c.close.new.log _ _ (rw c.requires at c.in-Ok.ensures) c.in-Ok-close.ensures refl

pub returns-in-Err-close-clause-writes : goal.returns-in-Err-close-clause-writes
returns-in-Err-close-clause-writes g c =
    (page-closed c.args.items.now c.args.told.now c.put_together.new.page.items (Err c.in-Err-close.fault) c.close.new.log _ _ (rw c.requires at c.in-Ok.ensures) c.in-Err-close.ensures c.in-Err-close.fault refl).0

pub returns-in-Err-close-clause-caused : goal.returns-in-Err-close-clause-caused
returns-in-Err-close-clause-caused g c =
    (page-closed c.args.items.now c.args.told.now c.put_together.new.page.items (Err c.in-Err-close.fault) c.close.new.log _ _ (rw c.requires at c.in-Ok.ensures) c.in-Err-close.ensures c.in-Err-close.fault refl).1
