use Rattle.std.proofs.Common.{◌≤◌, ◌+◌, ◌*◌, sum_by, sym, subst}
use Rattle.page_sheet.specs.Sheet.{SheetView}
use Rattle.page_sheet.specs.Slots.{bytes_taken}
use Rattle.page_sheet.specs.Layout.{slots_in}
use Rattle.page_sheet.proofs.PackLemmas.{IsCompacted, compacted}
use Rattle.page_sheet.proofs.LyingLemmas.{lying-compacted}
use Rattle.page_sheet.proofs.sheet.Sheet.compact.Goals as goal

whole : (c : goal.After-self-1) → IsCompacted c.self.inside.bytes c.put_u16.new.bytes c.self.inside.count c.move_together-upper.result
whole c =
    compacted c.self.inside.bytes c.move_together-upper.new.bytes c.put_u16.new.bytes c.self.inside.count c.move_together-upper.result c.self.invariant.0 c.move_together-upper.ensures
    (subst (λ (s : SheetView). 4 * s.count + sum_by bytes_taken (slots_in s.count s.bytes) ≤ 8168) (sym c.self.view_is) c.requires.room) c.put_u16.ensures

pub invariant_of-self : goal.invariant_of-self
invariant_of-self c = (
  (whole c).sound,
  lying-compacted c.self.inside.bytes c.put_u16.new.bytes c.self.inside.count c.move_together-upper.result (whole c),
)

pub returns-clause-slots : goal.returns-clause-slots
returns-clause-slots c = rw (← c.self.view_is) (whole c).slots

pub returns-clause-upper : goal.returns-clause-upper
returns-clause-upper c = rw (← c.self.view_is) (whole c).upper

pub returns-clause-order : goal.returns-clause-order
returns-clause-order c = rw (← c.self.view_is) (whole c).order
