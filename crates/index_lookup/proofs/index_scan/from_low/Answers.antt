use Rattle.std.proofs.Common.{ℤ, subst, sym, ◌∙◌}
use Rattle.std.specs.Int.{w128}
use Rattle.std.proofs.lemmas.Int.{to_z-of_z}
use Rattle.index_entries.specs.Sets.{IsLeast, IsBelow}
use Rattle.index_lookup.proofs.index_scan.from_low.Goals as goal

pub returns : goal.returns
returns c =
    subst (IsLeast c.args.index.now.entries (λ e. ¬ IsBelow c.args.span.now.low 0 e)) (sym c.with_hint.ensures)
    (subst (λ (low : ℤ). IsLeast c.args.index.now.entries (λ e. ¬ IsBelow low 0 e) c.first_from.result.found) (to_z-of_z w128 c.low.result c.low.ensures.fits ∙ c.low.ensures.value) c.first_from.ensures.found)
