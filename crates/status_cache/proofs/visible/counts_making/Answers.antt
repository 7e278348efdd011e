use Rattle.std.proofs.Common.{◌≡◌, sym, ◌∙◌, true, false}
use Rattle.visibility.proofs.Parts.{second-part}
use Rattle.status_cache.proofs.visible.counts_making.Goals as goal

pub returns-else-is_frozen-clause-value : goal.returns-else-is_frozen-clause-value
returns-else-is_frozen-clause-value c =
    second-part c.reads.result _ _ (λ f. absurd (let e : false ≡ true = sym c.if-is_frozen.false ∙ c.is_frozen.ensures ∙ f in cc)) c.reads.ensures.value
