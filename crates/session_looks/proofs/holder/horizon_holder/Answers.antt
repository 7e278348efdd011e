use Rattle.std.proofs.Common.{◌≡◌, arith}
use Rattle.session_looks.proofs.HolderLemmas.{none-holds, none-anywhere}
use Rattle.session_looks.proofs.holder.horizon_holder.Goals as goal

pub returns : goal.returns
returns c =
    let st = c.args.engine.now in
    let all : c.loop-session.session ≡ 64 = omega (arith, c.loop-session-test.false, c.loop-session.auto.session-end) in
    let none = none-anywhere st c.fact_set_up.ensures.count (λ s lt. c.loop-session.invariant s (omega (arith, all))) in
    (none, none-holds st none)
