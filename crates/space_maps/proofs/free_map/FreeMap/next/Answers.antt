use Rattle.space_maps.proofs.FreeSpaceLemmas.{NoByte-group}
use Rattle.space_maps.proofs.free_map.FreeMap.next.Goals as goal

pub loop-group-preserved : goal.loop-group-preserved
loop-group-preserved c =
    NoByte-group c.args.self.now.bytes c.args.from c.loop-group.group c.args.least c.loop-group.invariant c.in_default.ensures
