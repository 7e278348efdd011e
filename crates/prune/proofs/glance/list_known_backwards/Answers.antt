use Rattle.std.proofs.Common.{ℕ, ◌-◌, ◌≤◌, List, length, arith, sym, subst}
use Rattle.arrayvec.specs.ArrayVec.{ArrayVec}
use Rattle.prune.proofs.Doubting.{IsListingKnown, known-more, known-push, unnoted-plain}
use Rattle.prune.proofs.glance.list_known_backwards.Goals.{then-is_start_noted, else-is_start_noted}
use Rattle.prune.proofs.glance.list_known_backwards.Goals as goal

pub loop-number-preserved : goal.loop-number-preserved
loop-number-preserved c =
    let w = c.args.statuses.now in
    let slots = c.args.page.now.slots in
    let n = c.loop-number.number in
    let few : length slots ≤ 291 = omega (arith, c.slots-number.ensures.count, c.slots-number.ensures.limit) in
    elim c.if-is_start_noted.branch [
      | then-is_start_noted b ↦
          subst (λ (v : ArrayVec ℕ). IsListingKnown w slots v.items (n - 1)) (sym b.doubtful-is)
          (subst (λ (xs : List ℕ). IsListingKnown w slots xs (n - 1)) (sym b.push.ensures.items)
          (known-push w slots c.loop-number.doubtful.items n c.loop-number-test.true c.loop-number.invariant))
      | else-is_start_noted b ↦
          subst (λ (v : ArrayVec ℕ). IsListingKnown w slots v.items (n - 1)) (sym b.doubtful-is)
          (known-more w slots c.loop-number.doubtful.items n
          (unnoted-plain w slots c.args.numbers.now c.note_all.new.noted n few c.note_all.ensures c.requires.known (c.is_start_noted.ensures b.if-is_start_noted.false))
          c.loop-number.invariant)
    ]
