use Rattle.std.proofs.Common.{◌≡◌, ℕ, false, true, arith, sym, ◌∙◌}
use Rattle.session_looks.specs.Holders.{HasId}
use Rattle.session_looks.proofs.HolderLemmas.{none-has, some-has, has-more}
use Rattle.session_looks.proofs.holder.owner_of.Goals as goal

pub loop-s-preserved : goal.loop-s-preserved
loop-s-preserved c =
    has-more c.args.engine.now c.args.x.0 c.loop-s.s c.loop-s.invariant
    (λ has. absurd (let e : false ≡ true = sym c.if-has_id.false ∙ c.has_id.ensures.1 has in cc))

pub returns-clause-owner : goal.returns-clause-owner
returns-clause-owner c =
    let all : c.loop-s.s ≡ 64 = omega (arith, c.loop-s-test.false, c.loop-s.auto.s-end) in
    none-has c.args.engine.now c.args.x.0 c.fact_set_up.ensures.count (λ s lt. c.loop-s.invariant s (omega (arith, all)))

pub returns-clause-running : goal.returns-clause-running
returns-clause-running c =
    let all : c.loop-s.s ≡ 64 = omega (arith, c.loop-s-test.false, c.loop-s.auto.s-end) in
    let none = none-has c.args.engine.now c.args.x.0 c.fact_set_up.ensures.count (λ s lt. c.loop-s.invariant s (omega (arith, all))) in
    λ active. absurd (some-has c.args.engine.now c.args.x.0 none (c.fact_set_up.ensures.own_ids.owned c.args.x.0 active))
