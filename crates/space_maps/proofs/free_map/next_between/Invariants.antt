use Rattle.space_maps.specs.FreeSpace.{NoByte}
use Rattle.space_maps.proofs.free_map.next_between.Given as goal

abbrev pub invariant-loop-number : goal.invariant-loop-number
invariant-loop-number l = NoByte l.bytes l.fn.from l.number l.least
