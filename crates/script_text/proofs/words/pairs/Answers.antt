use Rattle.std.proofs.Common.{sym, ◌∙◌, arith}
use Rattle.script_text.proofs.ReadingLemmas.{pairs_step, pairs_end}
use Rattle.script_text.proofs.words.pairs.Goals as goal

pub loop-i-preserved : goal.loop-i-preserved
loop-i-preserved c =
    rw c.in_ok-push.ensures.added (
    sym (pairs_step c.args.word.now c.loop-i.bytes.items c.loop-i.i c.in-Some.high c.in-Some-nibble.low (omega arith) (sym c.in-Some.ensures.value) (sym c.in-Some-nibble.ensures.value))
    ∙ c.loop-i.invariant
    )

pub returns : goal.returns
returns c = pairs_end c.args.word.now c.loop-i.bytes.items c.loop-i.i (omega arith) c.loop-i.invariant
