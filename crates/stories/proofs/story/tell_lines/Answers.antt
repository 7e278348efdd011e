use Rattle.std.proofs.Common.{arith, [], ◌++◌}
use Rattle.std.proofs.KnownBytes.{Appends-trans}
use Rattle.stories.proofs.ReadLemmas.{bad-next, no-line, no-view, always}
use Rattle.stories.proofs.DrawOutcomeLemmas.{caused-by}
use Rattle.stories.proofs.ToldLemmas.{told-nothing, told-more, told-line, tells-all, at-end, refused-telling, untold, ends-telling}
use Rattle.stories.proofs.OutcomeLemmas.{tell-caused}
use Rattle.stories.proofs.story.tell_lines.Goals as goal

pub loop-done-init : goal.loop-done-init
loop-done-init g c = told-nothing _ _ _ _ _ _

pub loop-done-preserved : goal.loop-done-preserved
loop-done-preserved g c =
    let h = told-more _ _ _ _ _ _ _ _ _ _ _ _ _ _ _ _ c.loop-done.invariant c.in-Ok.ensures.takes c.in-Ok.ensures.quiet in
    let found = rw c.in-Line.is at c.in-Ok.ensures.line in
    let done = rw (c.in-Ok-true.field-0-test, c.as_slice.ensures) at c.in-Ok-true.ensures.done in
    rw c.consume.ensures (told-line _ _ _ _ _ _ _ _ _ _ _ _ _ _ _ _ c.in-Line.n h found.2 found.0 found.1 done)

pub returns-in-Err-clause-tells : goal.returns-in-Err-clause-tells
returns-in-Err-clause-tells g c =
    always _ _ (λ input. refused-telling c.args.engine.now c.loop-done.engine c.args.items.now.items c.loop-done.items.items c.args.told.now.items c.loop-done.told.items c.in-Err.fault _ c.in-Err.ensures.fault (c.args.pending.now ++ input))

pub returns-in-Err-clause-quiet : goal.returns-in-Err-clause-quiet
returns-in-Err-clause-quiet g c = Appends-trans _ _ _ [] [] c.loop-done.invariant.read.quiet c.in-Err.ensures.quiet

pub returns-in-Err-clause-caused : goal.returns-in-Err-clause-caused
returns-in-Err-clause-caused g c = caused-by _ _ c.in-Err.ensures.fault

pub returns-in-Bad-clause-tells : goal.returns-in-Bad-clause-tells
returns-in-Bad-clause-tells g c =
    let h = told-more _ _ _ _ _ _ _ _ _ _ _ _ _ _ _ _ c.loop-done.invariant c.in-Ok.ensures.takes c.in-Ok.ensures.quiet in
    let none = rw c.in-Bad.is at c.in-Ok.ensures.line in
    rw c.bad_line.ensures (bad-next _ _ _ _ _ _ _ _ _ _ h.read (omega (arith, c.from-number.ensures)) (no-line _ _ none))

pub returns-in-End-clause-tells : goal.returns-in-End-clause-tells
returns-in-End-clause-tells g c =
    let h = told-more _ _ _ _ _ _ _ _ _ _ _ _ _ _ _ _ c.loop-done.invariant c.in-Ok.ensures.takes c.in-Ok.ensures.quiet in
    let end = rw c.in-End.is at c.in-Ok.ensures.line in
    tells-all _ _ _ _ _ _ _ _ _ _ _ _ _ h (omega (arith, c.loop-done-test.true)) (at-end _ _ end)

pub returns-in-Ok-false-clause-tells : goal.returns-in-Ok-false-clause-tells
returns-in-Ok-false-clause-tells g c =
    let h = told-more _ _ _ _ _ _ _ _ _ _ _ _ _ _ _ _ c.loop-done.invariant c.in-Ok.ensures.takes c.in-Ok.ensures.quiet in
    let found = rw c.in-Line.is at c.in-Ok.ensures.line in
    let bad = rw (c.in-Ok-false.field-0-test, c.as_slice.ensures) at c.in-Ok-false.ensures.bad in
    rw c.bad_line-in-Ok-false.ensures (bad-next _ _ _ _ _ _ _ _ _ _ h.read (omega (arith, c.from-number.ensures)) (λ rest e. no-view _ c.in-Line.n found.2 bad rest))

pub returns-in-Err-tell_line-clause-tells : goal.returns-in-Err-tell_line-clause-tells
returns-in-Err-tell_line-clause-tells g c =
    let h = told-more _ _ _ _ _ _ _ _ _ _ _ _ _ _ _ _ c.loop-done.invariant c.in-Ok.ensures.takes c.in-Ok.ensures.quiet in
    let found = rw c.in-Line.is at c.in-Ok.ensures.line in
    untold _ _ _ _ _ _ _ _ _ _ _ c.tell_line.new.items.items _ _ c.tell_line.new.told.items _ c.in-Line.n _ h found.2 found.0 found.1 (rw c.as_slice.ensures at c.in-Err-tell_line.ensures.fault)

pub returns-in-Err-tell_line-clause-caused : goal.returns-in-Err-tell_line-clause-caused
returns-in-Err-tell_line-clause-caused g c = tell-caused _ _ _ _ _ c.in-Err-tell_line.ensures.fault

pub returns-clause-tells : goal.returns-clause-tells
returns-clause-tells g c =
    ends-telling _ _ _ _ _ _ _ _ _ _ _ _ _ _ c.loop-done.invariant (omega (arith, c.loop-done-test.false, c.loop-done.auto.done-end)) c.ends_here.ensures.ends

pub returns-clause-quiet : goal.returns-clause-quiet
returns-clause-quiet g c = Appends-trans _ _ _ [] [] c.loop-done.invariant.read.quiet c.ends_here.ensures.quiet
