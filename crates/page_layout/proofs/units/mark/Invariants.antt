use Rattle.page_layout.specs.Units.{AreMarked}
use Rattle.page_layout.proofs.units.mark.Given as goal

abbrev pub invariant-loop-unit : goal.invariant-loop-unit
invariant-loop-unit l = AreMarked l.initial.marks l.marks l.from l.unit
