use Rattle.std.proofs.Common.{◌∙◌, ◌+◌, sym, subst, arith}
use Rattle.index_leaves.proofs.BracketLemmas.{IsBracket, looked_less, looked_not_less, gap-from_bracket}
use Rattle.dead_places.proofs.PlaceLemmas.{less_from_test}
use Rattle.index_leaves.proofs.leaf.search.Goals as goal
use Rattle.index_leaves.proofs.leaf.search.Goals.{then-is_before, else-is_before}

pub loop-low-preserved : goal.loop-low-preserved
loop-low-preserved g c =
    let xs = c.args.entries.now.entries in
    let x = c.args.sought.now in
    let kept = c.loop-low.invariant in
    let from_low = kept.from_low c.loop-low-test.true in
    let to_high = kept.to_high c.loop-low-test.true in
    elim c.if-is_before.branch [
      | then-is_before w ↦ record {
        bracket = subst (λ low. IsBracket xs x low c.if-is_before.high) (sym w.low-is)
            (subst (IsBracket xs x (c.loop-low.place + 1)) (sym w.high-is)
            (looked_less xs x x c.loop-low.low c.loop-low.high c.loop-low.place c.requires kept.bracket to_high (less_from_test _ (sym (c.is_before.ensures x) ∙ w.if-is_before.true))));
        from_low = λ some. omega (arith, w.low-is, w.place-is);
        to_high = λ some. omega (arith, w.low-is, w.high-is, w.place-is, w.min.ensures);
      }
      | else-is_before w ↦ record {
        bracket = subst (λ low. IsBracket xs x low c.if-is_before.high) (sym w.low-is)
            (subst (IsBracket xs x c.loop-low.low) (sym w.high-is)
            (looked_not_less xs x x c.loop-low.low c.loop-low.high c.loop-low.place c.requires kept.bracket from_low to_high (sym (c.is_before.ensures x) ∙ w.if-is_before.false)));
        from_low = λ some. omega (arith, w.low-is, w.high-is, w.place-is, w.saturating_sub-place.ensures, w.min-else-is_before.ensures);
        to_high = λ some. omega (arith, w.low-is, w.high-is, w.place-is, w.saturating_sub-place.ensures);
      }
    ]

pub returns-else-is_at-clause-absent : goal.returns-else-is_at-clause-absent
returns-else-is_at-clause-absent g c =
    gap-from_bracket c.args.entries.now.entries c.args.sought.now c.loop-low.low c.loop-low.high c.requires c.loop-low.invariant.bracket c.loop-low-test.false
    (λ there. absurd (let yes = c.is_at.ensures.1 there in let no = c.if-is_at.false in cc))
