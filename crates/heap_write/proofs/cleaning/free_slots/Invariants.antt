use Rattle.std.proofs.Common.{map, take}
use Rattle.xid_circle.specs.declared.Tid.{Tid}
use Rattle.heap_write.proofs.Freeing.{HasFreed}
use Rattle.heap_write.proofs.cleaning.free_slots.Given as goal

abbrev pub invariant-loop-place : goal.invariant-loop-place
invariant-loop-place l = HasFreed l.fn.page l.page (map (λ (tid : Tid). tid.slot) (take l.place-index l.places))
