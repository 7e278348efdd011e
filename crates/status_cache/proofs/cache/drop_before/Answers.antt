use Rattle.std.proofs.Common.{◌∙◌, ◌<◌, length, refl, subst}
use Rattle.status_cache.proofs.Turning.{passed-on}
use Rattle.status_cache.proofs.cache.drop_before.Goals as goal

pub loop-preserved : goal.loop-preserved
loop-preserved c =
    let within : c.loop.counter < length c.args.kept.now.entries = subst (λ n. c.loop.counter < n) c.len-end.ensures.len c.loop-test.true in
    record {
      gone = passed-on c.args.kept.now.entries c.loop.kept.entries c.pass_last.new.kept.entries c.args.x.0 (length c.args.kept.now.entries) c.loop.counter refl within c.loop.invariant.gone
          c.pass_last.ensures.entries;
      capacity = c.pass_last.ensures.capacity ∙ c.loop.invariant.capacity;
    }
