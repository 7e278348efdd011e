use Rattle.std.proofs.Common.{◌≡◌, ℕ, ◌<◌, List, Some, length, set, inl, inr, subst, arith}
use Rattle.space_maps.specs.Hints.{AddsDoubt}
use Rattle.space_maps.proofs.HintsLemmas.{doubt-put}
use Rattle.space_maps.proofs.prune_hints.put_doubt.Goals.{then-numbers-place-eq0-via-then-numbers-place-eq0, then-numbers-place-eq0-via-else-numbers-place-eq0+then-numbers-place}
use Rattle.space_maps.proofs.prune_hints.put_doubt.Goals as goal

pub returns-then-numbers-place-eq0 : goal.returns-then-numbers-place-eq0
returns-then-numbers-place-eq0 c = λ noted.
    let numbers = c.loop-place.numbers in
    let place = c.loop-place.place in
    let slot = c.args.slot in
    let long : length numbers ≡ 7 = c.loop-place.invariant.1 in
    let within : place < length numbers = let few = c.loop-place-test.true in omega arith in
    subst (λ (known : List ℕ). AddsDoubt (Some known) slot (Some (set numbers place slot))) c.loop-place.invariant.0
    (elim c.then-numbers-place-eq0.branch [
      | then-numbers-place-eq0-via-then-numbers-place-eq0 w ↦ doubt-put numbers place slot within (inl w.if-numbers-place-eq0.true)
      | then-numbers-place-eq0-via-else-numbers-place-eq0+then-numbers-place w ↦ doubt-put numbers place slot within (inr w.if-numbers-place.true)
    ])
