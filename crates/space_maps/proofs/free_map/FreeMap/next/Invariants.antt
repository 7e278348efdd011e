use Rattle.std.proofs.Common.{◌*◌, min, length}
use Rattle.space_maps.specs.FreeSpace.{NoByte}
use Rattle.space_maps.proofs.free_map.FreeMap.next.Given as goal

abbrev pub invariant-loop-group : goal.invariant-loop-group
invariant-loop-group l = NoByte l.self.bytes l.fn.from (min (256 * l.group) (length l.self.bytes)) l.fn.least
