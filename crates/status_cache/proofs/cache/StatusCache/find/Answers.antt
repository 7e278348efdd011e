use Rattle.std.proofs.Common.{ℕ, sym, subst}
use Rattle.lru.specs.LruCache.{LruCache}
use Rattle.commit_status.specs.declared.status.Status.{Status}
use Rattle.status_cache.specs.Held.{IsStatusCache}
use Rattle.status_cache.proofs.HeldLemmas.{promoted-ended, first-found, first-promoted}
use Rattle.status_cache.proofs.cache.StatusCache.find.Goals as goal

pub invariant_of-self : goal.invariant_of-self
invariant_of-self c =
    subst (λ (d : LruCache ℕ Status). IsStatusCache d.entries d.cap) (sym c.get.follows.holds-at-none)
    (promoted-ended c.self.inside.kept.entries c.self.inside.kept.cap c.args.x.0 c.self.invariant)

pub returns-in-Some-clause-value : goal.returns-in-Some-clause-value
returns-in-Some-clause-value c = sym (first-found c.args.self.now c.args.x.0 c.in-Some.status c.in-Some.ensures)

pub returns-in-Some-clause-kept : goal.returns-in-Some-clause-kept
returns-in-Some-clause-kept c = sym (first-promoted c.args.self.now c.args.x.0 c.in-Some.status c.in-Some.ensures)
