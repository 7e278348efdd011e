use Rattle.std.proofs.Common.{arith}
use Rattle.std.proofs.lemmas.Bool.{ltb-true}
use Rattle.page_sheet.specs.Layout.{slot_in, slots_in}
use Rattle.page_sheet.specs.Slots.{slot_at}
use Rattle.page_slots.proofs.Dead.{dead-slot, missing-dead}
use Rattle.page_sheet.proofs.Found.{found, missing}
use Rattle.page_slots.proofs.page.Page.is_dead.Goals as goal

pub returns-then-index-len : goal.returns-then-index-len
returns-then-index-len c =
    let at = found c.self.inside.sheet.count c.self.inside.sheet.bytes c.args.number c.in-Some.index c.in-Some.ensures (omega arith) in
    rw (← c.self.view_is) (rw (at, c.is_dead.ensures) (dead-slot (slot_in c.self.inside.sheet.bytes c.in-Some.index)))

pub returns-else-index-len : goal.returns-else-index-len
returns-else-index-len c =
    let gone = missing c.self.inside.sheet.count c.self.inside.sheet.bytes c.args.number c.in-Some.index c.in-Some.ensures (omega arith) in
    rw (← c.self.view_is) (
      λ below. let within = ltb-true c.in-Some.index c.len.result below in absurd (omega arith),
      λ dead. absurd (missing-dead (slot_at (slots_in c.self.inside.sheet.count c.self.inside.sheet.bytes) c.args.number) gone dead),
    )
