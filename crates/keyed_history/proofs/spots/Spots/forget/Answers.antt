use Rattle.std.proofs.Common.{◌∙◌, None, cond, ap}
use Rattle.keyed_history.specs.Spots.{noted_at}
use Rattle.keyed_history.proofs.SpotLemmas.{tied}
use Rattle.keyed_history.proofs.spots.Spots.forget.Goals as goal

pub returns : goal.returns
returns c = λ k m. c.remove.ensures.updates.0 (k, m) ∙ ap (λ b. cond b None (noted_at c.args.self.now.places k m)) (tied c.args.key c.args.n k m)
