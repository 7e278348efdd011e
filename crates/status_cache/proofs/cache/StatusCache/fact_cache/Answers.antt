use Rattle.std.proofs.Common.{◌≤◌, length, subst}
use Rattle.status_cache.specs.Held.{IsCache}
use Rattle.status_cache.proofs.cache.StatusCache.fact_cache.Goals as goal

pub returns : goal.returns
returns c =
    let valid = c.len-len.ensures.valid in
    subst IsCache c.self.view_is (record {
      ended = c.self.invariant.ended;
      distinct = valid.0;
      few = subst (λ n. length c.self.inside.kept.entries ≤ n) c.self.invariant.capacity_is valid.1;
    })
