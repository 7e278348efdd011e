use Rattle.std.proofs.Common.{◌≤◌, get_or, ap, arith}
use Rattle.space_maps.proofs.FreeSpaceLemmas.{low-promises_not, found-promises}
use Rattle.space_maps.proofs.free_map.FreeMap.find.Goals as goal

pub returns-then-least-gt-MOST-clause-found : goal.returns-then-least-gt-MOST-clause-found
returns-then-least-gt-MOST-clause-found c = λ k within.
    let byte = get_or c.args.self.now.bytes k 0 in
    let fits : byte ≤ 255 = omega (arith, c.self.invariant.0.fits k, ap (λ m. get_or m.bytes k 0) c.self.view_is) in
    low-promises_not c.args.size byte c.div_ceil-least.result c.div_ceil-least.ensures (omega (arith, fits, c.if-least-gt-MOST.true))

pub returns-clause-found : goal.returns-clause-found
returns-clause-found c = found-promises c.args.self.now.bytes c.args.size c.div_ceil-least.result c.find_byte.result c.div_ceil-least.ensures c.find_byte.ensures.found
