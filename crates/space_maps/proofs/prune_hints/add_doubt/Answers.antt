use Rattle.std.proofs.Common.{List, ℕ, Option, Some, None, sym, subst, ◌∙◌}
use Rattle.space_maps.specs.Hints.{AddsDoubt}
use Rattle.space_maps.proofs.prune_hints.add_doubt.Goals.{in-Some, in-None}
use Rattle.space_maps.proofs.prune_hints.add_doubt.Goals as goal

pub returns-else-not-has_place : goal.returns-else-not-has_place
returns-else-not-has_place c =
    let P : Option (List ℕ) → Option (List ℕ) → Type 0 = λ old new. AddsDoubt old c.args.slot new in
    elim c.match-doubts.branch [
      | in-Some w ↦
          let adds = w.put_doubt-has_place.ensures (sym w.has_place-is ∙ c.if-not-has_place.false) in
          subst (λ old. P old c.match-doubts.doubts) (sym w.in-Some.is) (subst (λ new. P (Some w.in-Some.numbers) new) (sym w.doubts-is) adds)
      | in-None w ↦ subst (λ old. P old c.match-doubts.doubts) (sym w.in-None.is) (subst (λ new. P None new) (sym (w.doubts-is ∙ w.in-None.is)) tt)
    ]
