use Rattle.std.proofs.Common.{arith, drop, []}
use Rattle.std.proofs.lemmas.Grind.{common_steps}
use Rattle.std.proofs.lemmas.List.{take_all}
use Rattle.script.proofs.PiecesLemmas.{Appends-more, Gives-prefix, Gives-whole}
use Rattle.script.proofs.output.write_out.Goals as goal

pub returns-in_err-written-clause-prefix : goal.returns-in_err-written-clause-prefix
returns-in_err-written-clause-prefix g c =
    (drop c.loop-written.written c.args.text.now.items, Gives-prefix _ _ _ _ _ c.loop-written.invariant.0 c.in_err-written.ensures.err)

pub loop-written-preserved : goal.loop-written-preserved
loop-written-preserved g c =
    let bytes = rw c.deref.ensures.value at c.in_ok-written.ensures.bytes in
    (Appends-more _ _ _ _ _ _ c.loop-written.invariant.0 bytes, grind (arith, common_steps))

pub returns-clause-prefix : goal.returns-clause-prefix
returns-clause-prefix g c =
    ([], Gives-whole _ _ _ (rw (take_all c.loop-written.written c.args.text.now.items (omega (arith, c.args.text.now.ok.0))) at c.loop-written.invariant.0))
