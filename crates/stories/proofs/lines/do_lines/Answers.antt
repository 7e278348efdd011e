use Rattle.std.proofs.Common.{arith, [], ◌++◌}
use Rattle.std.proofs.KnownBytes.{Appends-trans}
use Rattle.stories.proofs.ReadLemmas.{read-nothing, read-more, read-line, runs-all, runs-most, bad-next, no-line, no-view, refused-run, always}
use Rattle.stories.proofs.lines.do_lines.Goals as goal

pub loop-done-init : goal.loop-done-init
loop-done-init g c = read-nothing _ _ _ _

pub loop-done-preserved : goal.loop-done-preserved
loop-done-preserved g c =
    let h = read-more _ _ _ _ _ _ _ _ _ _ _ _ c.loop-done.invariant c.in-Ok.ensures.takes c.in-Ok.ensures.quiet in
    let found = rw c.in-Line.is at c.in-Ok.ensures.line in
    let done = rw (c.in-Ok-true.field-0-test, c.as_slice.ensures) at c.in-Ok-true.ensures.done in
    rw c.consume.ensures (read-line _ _ _ _ _ _ _ _ _ _ c.in-Line.n done.0 h found.2 found.0 found.1 done.1 done.2 done.3)

pub returns-in-Err-clause-runs : goal.returns-in-Err-clause-runs
returns-in-Err-clause-runs g c = always _ _ (λ input. refused-run c.args.engine.now c.loop-done.engine c.args.most c.in-Err.fault _ c.in-Err.ensures.fault (c.args.pending.now ++ input))

pub returns-in-Err-clause-quiet : goal.returns-in-Err-clause-quiet
returns-in-Err-clause-quiet g c = Appends-trans _ _ _ [] [] c.loop-done.invariant.quiet c.in-Err.ensures.quiet

pub returns-in-Bad-clause-runs : goal.returns-in-Bad-clause-runs
returns-in-Bad-clause-runs g c =
    let h = read-more _ _ _ _ _ _ _ _ _ _ _ _ c.loop-done.invariant c.in-Ok.ensures.takes c.in-Ok.ensures.quiet in
    let none = rw c.in-Bad.is at c.in-Ok.ensures.line in
    bad-next _ _ _ _ _ _ _ _ _ _ h (omega (arith, c.from-number.ensures)) (no-line _ _ none)

pub returns-in-End-clause-runs : goal.returns-in-End-clause-runs
returns-in-End-clause-runs g c =
    let h = read-more _ _ _ _ _ _ _ _ _ _ _ _ c.loop-done.invariant c.in-Ok.ensures.takes c.in-Ok.ensures.quiet in
    let end = rw c.in-End.is at c.in-Ok.ensures.line in
    runs-all _ _ _ _ _ _ _ _ _ _ h (omega arith) end

pub returns-in-Ok-false-clause-runs : goal.returns-in-Ok-false-clause-runs
returns-in-Ok-false-clause-runs g c =
    let h = read-more _ _ _ _ _ _ _ _ _ _ _ _ c.loop-done.invariant c.in-Ok.ensures.takes c.in-Ok.ensures.quiet in
    let found = rw c.in-Line.is at c.in-Ok.ensures.line in
    let bad = rw (c.in-Ok-false.field-0-test, c.as_slice.ensures) at c.in-Ok-false.ensures.bad in
    bad-next _ _ _ _ _ _ _ _ _ _ h (omega (arith, c.from-number.ensures)) (λ rest e. no-view _ c.in-Line.n found.2 bad rest)

pub returns-clause-runs : goal.returns-clause-runs
returns-clause-runs g c = runs-most _ _ _ _ _ _ _ _ _ _ c.loop-done.invariant (omega (arith, c.loop-done-test.false, c.loop-done.auto.done-end))
