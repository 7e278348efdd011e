use Rattle.std.proofs.Common.{refl, arith}
use Rattle.script.proofs.PiecesLemmas.{Gives-refl, Takes-refl, Keeps-refl}
use Rattle.script.proofs.RunLemmas.{refused_growth, caused_by, closed_caused}
use Rattle.viewing.proofs.RunLemmas.{Progress-more, Progress-line, adv_fault, adv_close, adv_over, bad_from_none, bad_from_line}
use Rattle.viewing.proofs.run.run_lines.Goals as goal

pub returns-in-Err-clause-advances : goal.returns-in-Err-clause-advances
returns-in-Err-clause-advances g c = adv_fault _ _ _ _ _ _ _ _ _ _ _ _ _ _ _ c.loop-number.invariant c.in-Err.ensures.fault c.in-Err.ensures.prefix

pub returns-in-Bad-clause-advances : goal.returns-in-Bad-clause-advances
returns-in-Bad-clause-advances g c =
    let h = Progress-more _ _ _ _ _ _ _ _ _ _ _ _ _ _ _ _ c.loop-number.invariant c.in-Ok.ensures.takes c.in-Ok.ensures.gives in
    let none = rw c.in-Bad.is at c.in-Ok.ensures.line in
    adv_close _ _ _ _ _ _ _ _ _ _ _ _ _ _ _ _ h c.close.ensures (λ rest t e k.
    (h.number_is, bad_from_none _ rest (rw e at none), k))

pub returns-in-End-clause-advances : goal.returns-in-End-clause-advances
returns-in-End-clause-advances g c =
    let h = Progress-more _ _ _ _ _ _ _ _ _ _ _ _ _ _ _ _ c.loop-number.invariant c.in-Ok.ensures.takes c.in-Ok.ensures.gives in
    let none = rw c.in-End.is at c.in-Ok.ensures.line in
    adv_close _ _ _ _ _ _ _ _ _ _ _ _ _ _ _ _ h c.close-in-End.ensures (λ rest t e k.
    (let at_end = rw e at none.1 in rw (none.0, at_end) refl, k))

pub returns-in-Ok-false-clause-advances : goal.returns-in-Ok-false-clause-advances
returns-in-Ok-false-clause-advances g c =
    let h = Progress-more _ _ _ _ _ _ _ _ _ _ _ _ _ _ _ _ c.loop-number.invariant c.in-Ok.ensures.takes c.in-Ok.ensures.gives in
    let found = rw c.in-Line.is at c.in-Ok.ensures.line in
    let bad = rw (c.in-Ok-false.field-0-test, c.as_slice.ensures) at c.in-Ok-false.ensures.bad in
    let same = rw c.in-Ok-false.field-0-test at c.in-Ok-false.ensures.same in
    let closed = rw same at c.close-in-Ok-false.ensures in
    adv_close _ _ _ _ _ _ _ _ _ _ _ _ _ _ _ _ h closed (λ rest t e k.
    (h.number_is, bad_from_line _ rest c.in-Line.n found.2 bad, k))

pub returns-in-Err-do_noted-clause-advances : goal.returns-in-Err-do_noted-clause-advances
returns-in-Err-do_noted-clause-advances g c =
    let h = Progress-more _ _ _ _ _ _ _ _ _ _ _ _ _ _ _ _ c.loop-number.invariant c.in-Ok.ensures.takes c.in-Ok.ensures.gives in
    adv_fault _ _ _ _ _ _ _ _ _ _ _ _ _ _ _ h (refused_growth _ c.no_memory.new.self c.no_memory.ensures.fault c.no_memory.ensures.memory) (_, Gives-refl _ _)

pub returns-in-Err-write_if_full-clause-advances : goal.returns-in-Err-write_if_full-clause-advances
returns-in-Err-write_if_full-clause-advances g c =
    let h = Progress-more _ _ _ _ _ _ _ _ _ _ _ _ _ _ _ _ c.loop-number.invariant c.in-Ok.ensures.takes c.in-Ok.ensures.gives in
    let found = rw c.in-Line.is at c.in-Ok.ensures.line in
    let done = rw (c.in-Ok-true.field-0-test, c.as_slice.ensures) at c.in-Ok-true.ensures.done in
    let k = Progress-line _ _ _ _ _ _ _ _ _ _ _ _ _ _ _ h found.2 found.0 found.1 done in
    adv_fault _ _ _ _ _ _ _ _ _ _ _ _ _ _ _ k c.in-Err-write_if_full.ensures.fault c.in-Err-write_if_full.ensures.prefix

pub loop-number-preserved : goal.loop-number-preserved
loop-number-preserved g c =
    let h = Progress-more _ _ _ _ _ _ _ _ _ _ _ _ _ _ _ _ c.loop-number.invariant c.in-Ok.ensures.takes c.in-Ok.ensures.gives in
    let found = rw c.in-Line.is at c.in-Ok.ensures.line in
    let done = rw (c.in-Ok-true.field-0-test, c.as_slice.ensures) at c.in-Ok-true.ensures.done in
    let k = Progress-line _ _ _ _ _ _ _ _ _ _ _ _ _ _ _ h found.2 found.0 found.1 done in
    rw c.consume.ensures (Progress-more _ _ _ _ _ _ _ _ _ _ _ _ _ _ _ _ k (Takes-refl _ _ _ (Keeps-refl _)) c.in_default.ensures.ok)

pub returns-clause-advances : goal.returns-clause-advances
returns-clause-advances g c = adv_over _ _ _ _ _ _ _ _ _ _ _ _ c.loop-number.invariant (omega (arith, c.loop-number-test.false, c.loop-number.auto.number-end))

pub returns-in-Err-clause-caused : goal.returns-in-Err-clause-caused
returns-in-Err-clause-caused g c = caused_by _ _ c.in-Err.ensures.fault

pub returns-in-Bad-clause-caused : goal.returns-in-Bad-clause-caused
returns-in-Bad-clause-caused g c = closed_caused _ _ _ c.close.ensures tt

pub returns-in-End-clause-caused : goal.returns-in-End-clause-caused
returns-in-End-clause-caused g c = closed_caused _ _ _ c.close-in-End.ensures tt

pub returns-in-Ok-false-clause-caused : goal.returns-in-Ok-false-clause-caused
returns-in-Ok-false-clause-caused g c = closed_caused _ _ _ c.close-in-Ok-false.ensures tt

pub returns-in-Err-write_if_full-clause-caused : goal.returns-in-Err-write_if_full-clause-caused
returns-in-Err-write_if_full-clause-caused g c = caused_by _ _ c.in-Err-write_if_full.ensures.fault
