use Rattle.std.proofs.Common.{◌∙◌, Some, cond, ap}
use Rattle.keyed_history.specs.Spots.{noted_at}
use Rattle.keyed_history.proofs.SpotLemmas.{tied}
use Rattle.keyed_history.proofs.spots.Spots.note.Goals as goal

pub returns-clause-ok : goal.returns-clause-ok
returns-clause-ok c = λ k m. c.in_ok-insert.ensures.updates.0 (k, m) ∙ ap (λ b. cond b (Some c.args.place) (noted_at c.args.self.now.places k m)) (tied c.args.key c.args.n k m)
