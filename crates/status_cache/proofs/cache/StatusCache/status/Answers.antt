use Rattle.std.proofs.Common.{◌≡◌, ◌∙◌, ℕ, List, Some, None, nat_eq, sym, subst}
use Rattle.std.specs.Map.{lookup}
use Rattle.lru.proofs.CallerLemmas.{Contains-promoted}
use Rattle.commit_status.specs.declared.status.Status.{Status}
use Rattle.status_cache.specs.Held.{IsCached, CacheAgrees, CachesStatus, CacheAnswers}
use Rattle.status_cache.proofs.HeldLemmas.{promoted-found, promoted-none, held-found, held-none}
use Rattle.status_cache.proofs.Agreeing.{found-status, keeps-agrees}
use Rattle.status_cache.proofs.cache.StatusCache.status.Goals as goal

pub returns-in-Some-clause-value : goal.returns-in-Some-clause-value
returns-in-Some-clause-value c = found-status c.args.statuses.now c.args.self.now c.args.x.0 c.in-Some.status (sym c.find.ensures.value ∙ c.in-Some.is) c.requires

pub returns-in-Some-clause-agrees : goal.returns-in-Some-clause-agrees
returns-in-Some-clause-agrees c =
    subst (λ held. CacheAgrees held c.args.statuses.now) (sym c.find.ensures.kept) (λ e there. c.requires e (Contains-promoted (nat_eq c.args.x.0) c.args.self.now e there))

pub returns-in-Some-clause-asks : goal.returns-in-Some-clause-asks
returns-in-Some-clause-asks c =
    let found : lookup (nat_eq c.args.x.0) c.args.self.now ≡ Some c.in-Some.status = sym c.find.ensures.value ∙ c.in-Some.is in
    CacheAnswers.was_held (held-found c.args.self.now c.args.x.0 c.in-Some.status found) (c.find.ensures.kept ∙ promoted-found c.args.self.now c.args.x.0 c.in-Some.status found)

pub keep-requires : goal.keep-requires
keep-requires c =
    let none : lookup (nat_eq c.args.x.0) c.args.self.now ≡ None = sym c.find.ensures.value ∙ c.in_default.is in
    subst (λ (held : List (ℕ × Status)). ¬ IsCached held c.args.x.0) (sym (c.find.ensures.kept ∙ promoted-none c.args.self.now c.args.x.0 none)) (held-none c.args.self.now c.args.x.0 none)

pub returns-clause-agrees : goal.returns-clause-agrees
returns-clause-agrees c =
    let none : lookup (nat_eq c.args.x.0) c.args.self.now ≡ None = sym c.find.ensures.value ∙ c.in_default.is in
    keeps-agrees c.args.statuses.now c.find.new.self c.keep.new.self c.args.x.0 c.status-status.result (sym c.status-status.ensures) c.keep.ensures
    (subst (λ held. CacheAgrees held c.args.statuses.now) (sym (c.find.ensures.kept ∙ promoted-none c.args.self.now c.args.x.0 none)) c.requires)

pub returns-clause-asks : goal.returns-clause-asks
returns-clause-asks c =
    let none : lookup (nat_eq c.args.x.0) c.args.self.now ≡ None = sym c.find.ensures.value ∙ c.in_default.is in
    CacheAnswers.was_not (held-none c.args.self.now c.args.x.0 none)
    (subst (λ (held : List (ℕ × Status)). CachesStatus held c.keep.new.self c.args.x.0 c.status-status.result) (c.find.ensures.kept ∙ promoted-none c.args.self.now c.args.x.0 none) c.keep.ensures)
