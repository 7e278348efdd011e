use Rattle.std.proofs.Common.{refl, arith, sym, ◌∙◌}
use Rattle.script.proofs.RunLemmas.{refused_growth}
use Rattle.script.proofs.ReadingLemmas.{LinesRead-more, LinesRead-line, reading_ends, refusal_ends, bad_from_none, bad_from_line}
use Rattle.script.proofs.threads.read_lines.Goals as goal

pub returns-in-Err-clause-reads : goal.returns-in-Err-clause-reads
returns-in-Err-clause-reads g c = reading_ends _ _ _ _ _ _ _ _ _ _ _ c.loop-number.invariant (λ rest t. refusal_ends _ _ _ _ _ c.in-Err.ensures.fault)

pub returns-in-Bad-clause-reads : goal.returns-in-Bad-clause-reads
returns-in-Bad-clause-reads g c =
    let h = LinesRead-more _ _ _ _ _ _ _ _ _ _ _ _ _ c.loop-number.invariant c.in-Ok.ensures.takes c.in-Ok.ensures.gives in
    let none = rw c.in-Bad.is at c.in-Ok.ensures.line in
    reading_ends _ _ _ _ _ _ _ _ _ _ _ h (λ rest t. (h.number_is, bad_from_none _ rest (rw t at none)))

pub returns-in-End-clause-reads : goal.returns-in-End-clause-reads
returns-in-End-clause-reads g c =
    let h = LinesRead-more _ _ _ _ _ _ _ _ _ _ _ _ _ c.loop-number.invariant c.in-Ok.ensures.takes c.in-Ok.ensures.gives in
    let none = rw c.in-End.is at c.in-Ok.ensures.line in
    reading_ends _ _ _ _ _ _ _ _ _ _ _ h (λ rest t. (let at_end = rw t at none.1 in rw (none.0, at_end) refl, h.lists_are))

pub returns-in-Err-worker_step_at-clause-reads : goal.returns-in-Err-worker_step_at-clause-reads
returns-in-Err-worker_step_at-clause-reads g c =
    let h = LinesRead-more _ _ _ _ _ _ _ _ _ _ _ _ _ c.loop-number.invariant c.in-Ok.ensures.takes c.in-Ok.ensures.gives in
    reading_ends _ _ _ _ _ _ _ _ _ _ _ h (λ rest t. refusal_ends _ _ _ _ _ (refused_growth _ c.no_memory.new.self c.no_memory.ensures.fault c.no_memory.ensures.memory))

pub returns-in_default-clause-reads : goal.returns-in_default-clause-reads
returns-in_default-clause-reads g c =
    let h = LinesRead-more _ _ _ _ _ _ _ _ _ _ _ _ _ c.loop-number.invariant c.in-Ok.ensures.takes c.in-Ok.ensures.gives in
    let found = rw c.in-Line.is at c.in-Ok.ensures.line in
    let bad = rw (c.in_default.is, c.as_slice.ensures) at c.in-Ok-worker_step_at.ensures in
    reading_ends _ _ _ _ _ _ _ _ _ _ _ h (λ rest t. (h.number_is, bad_from_line _ rest c.in-Line.n found.2 bad))

pub returns-in-Err-keep_step-clause-reads : goal.returns-in-Err-keep_step-clause-reads
returns-in-Err-keep_step-clause-reads g c =
    let h = LinesRead-more _ _ _ _ _ _ _ _ _ _ _ _ _ c.loop-number.invariant c.in-Ok.ensures.takes c.in-Ok.ensures.gives in
    reading_ends _ _ _ _ _ _ _ _ _ _ _ h (λ rest t. refusal_ends _ _ _ _ _ c.in-Err-keep_step.ensures.fault)

pub loop-number-preserved : goal.loop-number-preserved
loop-number-preserved g c =
    let h = LinesRead-more _ _ _ _ _ _ _ _ _ _ _ _ _ c.loop-number.invariant c.in-Ok.ensures.takes c.in-Ok.ensures.gives in
    let found = rw c.in-Line.is at c.in-Ok.ensures.line in
    let says = rw (c.in-Some.is, c.as_slice.ensures) at c.in-Ok-worker_step_at.ensures in
    rw c.consume.ensures (LinesRead-line _ _ _ _ _ _ _ _ _ _ _ _ h found.2 found.0 found.1 says c.in_default-keep_step.ensures.kept)

pub returns-clause-reads : goal.returns-clause-reads
returns-clause-reads g c =
    let h = c.loop-number.invariant in
    reading_ends _ _ _ _ _ _ _ _ _ _ _ h (λ rest t. sym h.number_is ∙ omega (arith, c.loop-number-test.false, c.loop-number.auto.number-end))

pub returns-in-Bad-clause-quiet : goal.returns-in-Bad-clause-quiet
returns-in-Bad-clause-quiet g c = (LinesRead-more _ _ _ _ _ _ _ _ _ _ _ _ _ c.loop-number.invariant c.in-Ok.ensures.takes c.in-Ok.ensures.gives).quiet

pub returns-in-End-clause-quiet : goal.returns-in-End-clause-quiet
returns-in-End-clause-quiet g c = (LinesRead-more _ _ _ _ _ _ _ _ _ _ _ _ _ c.loop-number.invariant c.in-Ok.ensures.takes c.in-Ok.ensures.gives).quiet

pub returns-in-Err-worker_step_at-clause-quiet : goal.returns-in-Err-worker_step_at-clause-quiet
returns-in-Err-worker_step_at-clause-quiet g c = (LinesRead-more _ _ _ _ _ _ _ _ _ _ _ _ _ c.loop-number.invariant c.in-Ok.ensures.takes c.in-Ok.ensures.gives).quiet

pub returns-in_default-clause-quiet : goal.returns-in_default-clause-quiet
returns-in_default-clause-quiet g c = (LinesRead-more _ _ _ _ _ _ _ _ _ _ _ _ _ c.loop-number.invariant c.in-Ok.ensures.takes c.in-Ok.ensures.gives).quiet

pub returns-in-Err-keep_step-clause-quiet : goal.returns-in-Err-keep_step-clause-quiet
returns-in-Err-keep_step-clause-quiet g c = (LinesRead-more _ _ _ _ _ _ _ _ _ _ _ _ _ c.loop-number.invariant c.in-Ok.ensures.takes c.in-Ok.ensures.gives).quiet

pub returns-clause-quiet : goal.returns-clause-quiet
returns-clause-quiet g c = c.loop-number.invariant.quiet

pub returns-in-End-clause-none : goal.returns-in-End-clause-none
returns-in-End-clause-none g c = (LinesRead-more _ _ _ _ _ _ _ _ _ _ _ _ _ c.loop-number.invariant c.in-Ok.ensures.takes c.in-Ok.ensures.gives).silent
