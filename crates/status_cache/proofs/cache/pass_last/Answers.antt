use Rattle.status_cache.proofs.Turning.{passed-leaves, passed-stays}
use Rattle.std.proofs.Common.{refl}
use Rattle.status_cache.proofs.cache.pass_last.Goals as goal

pub returns-then-precedes-clause-entries : goal.returns-then-precedes-clause-entries
returns-then-precedes-clause-entries c =
    passed-leaves c.args.kept.now c.pop_lru.new.self c.args.x.0 (c.in-Some.last.now, c.in-Some.field-0-1.now) c.in-Some.ensures (c.if-precedes.ensures.0 refl) c.pop_lru.ensures.entries

pub returns-else-precedes-clause-entries : goal.returns-else-precedes-clause-entries
returns-else-precedes-clause-entries c =
    passed-stays c.args.kept.now c.promote.new.self c.args.x.0 (c.in-Some.last.now, c.in-Some.field-0-1.now) c.in-Some.ensures c.if-precedes.ensures c.len.ensures.valid.0 c.promote.ensures.entries
