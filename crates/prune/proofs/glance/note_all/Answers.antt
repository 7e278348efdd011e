use Rattle.std.proofs.Common.{◌+◌, List, Bool, length, arith, sym, ap, subst, ◌<◌, ◌∙◌, ℕ}
use Rattle.prune.proofs.Doubting.{AreNoted, noted-more, noted-past, noted-all}
use Rattle.prune.proofs.glance.note_all.Goals.{then-from-lt-MOST_SLOT_NUMBERS, else-from-lt-MOST_SLOT_NUMBERS}
use Rattle.prune.proofs.glance.note_all.Goals as goal

pub loop-number-preserved : goal.loop-number-preserved
loop-number-preserved c =
    let numbers = c.args.numbers.now in
    let i = c.loop-number.number-index in
    elim c.if-from-lt-MOST_SLOT_NUMBERS.branch [
      | then-from-lt-MOST_SLOT_NUMBERS w ↦
          subst (λ (noted : List Bool). AreNoted noted numbers (i + 1)) (sym w.noted-is)
          (noted-more c.loop-number.noted numbers i w.from-then-from-lt-MOST_SLOT_NUMBERS.result (sym (ap length w.noted-is) ∙ c.if-from-lt-MOST_SLOT_NUMBERS.array_long)
          w.from-then-from-lt-MOST_SLOT_NUMBERS.ensures (subst (λ (x : ℕ). x < 292) (c.from.ensures ∙ sym w.from-then-from-lt-MOST_SLOT_NUMBERS.ensures) w.if-from-lt-MOST_SLOT_NUMBERS.true)
          c.loop-number.invariant)
      | else-from-lt-MOST_SLOT_NUMBERS w ↦
          subst (λ (noted : List Bool). AreNoted noted numbers (i + 1)) (sym w.noted-is)
          (noted-past c.loop-number.noted numbers i c.from.result c.from.ensures w.if-from-lt-MOST_SLOT_NUMBERS.false c.loop-number.invariant)
    ]

pub returns : goal.returns
returns c = λ n small there.
    noted-all c.loop-number.noted c.args.numbers.now c.loop-number.number-index (omega (arith, c.told-numbers, c.loop-number-test.false)) c.loop-number.invariant n small there
