use Rattle.std.proofs.Common.{arith, subst}
use Rattle.page_sheet.specs.Sheet.{SheetView}
use Rattle.page_layout.specs.Sound.{IsSound}
use Rattle.page_sheet.proofs.sheet.Sheet.bytes.Goals as goal

pub returns-clause-count : goal.returns-clause-count
returns-clause-count c = rw (← c.self.view_is) (omega (arith, c.self.invariant.0.lower))

pub returns-clause-sound : goal.returns-clause-sound
returns-clause-sound c = subst (λ (s : SheetView). IsSound s.bytes s.count) c.self.view_is c.self.invariant.0
