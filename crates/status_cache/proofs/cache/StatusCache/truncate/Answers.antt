use Rattle.std.proofs.Common.{◌∙◌, ℕ, List, subst}
use Rattle.std.specs.List.{Contains}
use Rattle.commit_status.specs.declared.status.Status.{Status}
use Rattle.status_cache.proofs.Agreeing.{from-held}
use Rattle.status_cache.proofs.cache.StatusCache.truncate.Goals as goal

pub invariant_of-self : goal.invariant_of-self
invariant_of-self c = record {
  ended = λ e there. c.self.invariant.ended e (from-held c.args.x.0 c.self.inside.kept.entries e (subst (λ (held : List (ℕ × Status)). Contains held e) c.drop_before.ensures.entries there)).0;
  capacity_is = c.drop_before.ensures.capacity ∙ c.self.invariant.capacity_is;
}
