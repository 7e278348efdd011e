use Rattle.std.proofs.Common.{◌≡◌, Some, subst}
use Rattle.keyed_history.specs.Spots.{noted_at}
use Rattle.keyed_history.proofs.SpotLemmas.{in_range, from_range, none_between}
use Rattle.keyed_history.proofs.spots.Spots.last_below.Goals as goal

pub returns-in-None : goal.returns-in-None
returns-in-None c = λ m lt. (c.range.ensures.in_range tt).5 c.in-None.ensures.steps.0 (c.args.key, m) (in_range c.args.key c.args.n m lt)

pub returns-in-Some : goal.returns-in-Some
returns-in-Some c =
    let range = c.range.ensures.in_range tt in
    let found = range.3 _ _ c.in-Some.ensures.steps in
    let where_ = from_range c.args.key c.args.n c.in-Some.spot.now.0 c.in-Some.spot.now.1 found.0 in (
      where_.1,
      subst (λ k. noted_at c.args.self.now.places k c.in-Some.spot.now.1 ≡ Some c.in-Some.place.now) where_.0 found.1,
      λ m above below. none_between c.args.self.now.places c.args.key c.args.n c.in-Some.spot.now.0 c.in-Some.spot.now.1 m where_.0 (range.4 _ _ c.in-Some.ensures.steps) above below,
    )
