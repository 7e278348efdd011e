use Rattle.std.proofs.Common.{◌+◌, arith}
use Rattle.space_maps.proofs.HintsLemmas.{pages-later}
use Rattle.space_maps.proofs.prune_hints.PruneHints.end_all.Goals as goal

pub returns-then-self-lt18446744073709551615-clause-none :
    goal.returns-then-self-lt18446744073709551615-clause-none
returns-then-self-lt18446744073709551615-clause-none c =
    pages-later c.self.inside.epoch (c.self.inside.epoch + 1) c.self.inside.hints.items (omega arith) c.self.invariant
