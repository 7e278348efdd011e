use Rattle.std.proofs.Common.{◌≡◌, ◌∙◌, ℕ, ◌-◌, List, ◌∷◌, take, true, false, ap, sym, subst}
use Rattle.lru.specs.LruCache.{LruCache}
use Rattle.commit_status.specs.declared.status.Status.{Status}
use Rattle.status_cache.specs.Held.{IsCached, IsStatusCache, CachesStatus}
use Rattle.status_cache.specs.declared.cache.TheConstants.{MOST_STATUSES}
use Rattle.status_cache.proofs.HeldLemmas.{put-new, put-ended, either-way}
use Rattle.status_cache.proofs.cache.StatusCache.keep.Goals as goal

pub invariant_of-self : goal.invariant_of-self
invariant_of-self c =
    let Is : LruCache ℕ Status → Type 0 = λ d. IsStatusCache d.entries d.cap in
    either-way c.put.result (Is c.put.new.self) c.put.ensures.entries c.put.ensures.err
    (λ done. subst Is (sym done) (put-ended c.self.inside.kept c.args.x.0 c.args.status (λ active. let t : true ≡ false = rw active at c.if-ne.ensures in cc) c.self.invariant))
    (λ same. subst Is (sym same) c.self.invariant)

pub returns-then-ne : goal.returns-then-ne
returns-then-ne c =
    let absent : ¬ IsCached c.self.inside.kept.entries c.args.x.0 = subst (λ (held : List (ℕ × Status)). ¬ IsCached held c.args.x.0) (sym c.self.view_is) c.requires in
    either-way c.put.result (CachesStatus c.args.self.now c.put.new.self.entries c.args.x.0 c.args.status) c.put.ensures.entries c.put.ensures.err
    (λ done. CachesStatus.is_put (λ active. let t : true ≡ false = rw active at c.if-ne.ensures in cc)
    (ap (λ (d : LruCache ℕ Status). d.entries) done ∙ put-new c.self.inside.kept c.args.x.0 c.args.status c.self.invariant.capacity_is absent ∙ ap (λ (held : List (ℕ × Status)). (c.args.x.0, c.args.status) ∷ take (MOST_STATUSES - 1) held) c.self.view_is))
    (λ same. CachesStatus.is_left (ap (λ (d : LruCache ℕ Status). d.entries) same ∙ c.self.view_is))
