use Rattle.std.proofs.Common.{◌∙◌, set, ap}
use Rattle.space_maps.proofs.HintsLemmas.{pages-set}
use Rattle.space_maps.proofs.prune_hints.PruneHints.put.Goals as goal

pub returns-then-number-len-clause-pages : goal.returns-then-number-len-clause-pages
returns-then-number-len-clause-pages c =
    pages-set c.self.inside.epoch c.self.inside.hints.items c.args.number c.args.hint.turn c.args.hint.doubts
    ∙ ap (λ hints. set hints.pages c.args.number (record { turn = c.args.hint.turn; doubts = c.args.hint.doubts })) c.self.view_is
