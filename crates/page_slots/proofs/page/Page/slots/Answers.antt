use Rattle.std.proofs.Common.{◌∙◌, sym}
use Rattle.page_sheet.proofs.Sounds.{length-slots_in}
use Rattle.page_slots.proofs.page.Page.slots.Goals as goal

pub returns-clause-count : goal.returns-clause-count
returns-clause-count c =
    rw (← c.self.view_is) (c.len.ensures.count ∙ sym (length-slots_in c.self.inside.sheet.count c.self.inside.sheet.bytes))
