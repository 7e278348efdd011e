use Rattle.std.proofs.Common.{take}
use Rattle.viewing.proofs.ExplainingLemmas.{AreLooks}
use Rattle.viewing.proofs.explaining.entry_looks.Given as goal

abbrev pub invariant-loop-place : goal.invariant-loop-place
invariant-loop-place l = AreLooks l.engine.engine.core l.s (take l.place-index l.places) l.looks.items
