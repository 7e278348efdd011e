use Rattle.std.proofs.Common.{◌≡◌, true, false, refl, sym, ◌∙◌, arith, below_more}
use Rattle.judge.proofs.Rows.{apart_of}
use Rattle.judge.proofs.handing.are_apart.Goals as goal

pub loop-i-preserved : goal.loop-i-preserved
loop-i-preserved c = below_more _ _ c.loop-i.invariant (λ before. let never : true ≡ false = sym (c.stands_before.ensures.1 before) ∙ c.if-stands_before.false in absurd (cc))

pub returns : goal.returns
returns c = (λ is. apart_of c.args.rows.now (λ i lt. c.loop-i.invariant i (omega arith)), λ apart. refl)
