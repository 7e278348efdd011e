use Rattle.std.proofs.Common.{◌+◌, arith, refl, ap, sym}
use Rattle.std.proofs.lemmas.List.{take_rest}
use Rattle.plain_history.specs.Plain.{world_of}
use Rattle.transcript.proofs.ExchangeLemmas.{no_question, bad_question, no_answer, bad_answer, rest_fits, look_of, look_goes, step_goes, answer_wrong}
use Rattle.transcript.proofs.exchanges.judge_next.Goals as goal

pub returns-in_default-clause-fault : goal.returns-in_default-clause-fault
returns-in_default-clause-fault c =
    let none = rw (c.in_default.is, take_rest c.args.text.now c.args.at) at c.question_at.ensures in
    no_question c.args.text.now c.args.at _ c.requires (sym none) c.number_at.ensures

pub returns-in-Ok-None-clause-fault : goal.returns-in-Ok-None-clause-fault
returns-in-Ok-None-clause-fault c =
    let q = rw (take_rest c.args.text.now c.args.at) at c.in-Some.ensures in
    let asks = rw c.in-Ok-None.field-0-is at c.in-Ok-None.ensures in
    bad_question c.args.begins c.args.text.now _ _ c.args.at _ c.requires (sym q) asks c.number_at-in-Ok-None.ensures

pub returns-in_default-answer_at-clause-fault : goal.returns-in_default-answer_at-clause-fault
returns-in_default-answer_at-clause-fault c =
    let q = rw (take_rest c.args.text.now c.args.at) at c.in-Some.ensures in
    let asks = rw c.in-Ok-Some.field-0-is at c.in-Ok-Some.ensures in
    let none = rw c.in_default-answer_at.is at c.answer_at.ensures in
    no_answer c.args.begins c.args.text.now _ _ c.in-Ok-Some.question c.args.at _ (sym q) asks (sym none) (ap (λ k. k + 1) c.number_at-in_default-answer_at.ensures)

pub overflow_sub-next : goal.overflow_sub-next
overflow_sub-next c =
    let q = rw (take_rest c.args.text.now c.args.at) at c.in-Some.ensures in
    rest_fits c.args.text.now _ _ _ _ c.args.at (sym q) (sym c.in-Some-answer_at.ensures)

pub returns-in_default-question-clause-next : goal.returns-in_default-question-clause-next
returns-in_default-question-clause-next c =
    let q = rw (take_rest c.args.text.now c.args.at) at c.in-Some.ensures in
    let asks = rw c.in-Ok-Some.field-0-is at c.in-Ok-Some.ensures in
    let within = c.requires in
    look_goes c.args.begins _ c.args.text.now _ _ _ _ _ c.args.at _ (omega (arith, within)) (sym q) (sym c.in-Some-answer_at.ensures) (look_of _ _ _ asks c.in_default-question.not-Step) refl

pub returns-in-Ok-Some-Allowed-clause-next : goal.returns-in-Ok-Some-Allowed-clause-next
returns-in-Ok-Some-Allowed-clause-next c =
    let q = rw (take_rest c.args.text.now c.args.at) at c.in-Some.ensures in
    let asks = rw (c.in-Ok-Some.field-0-is, c.in-Step.is) at c.in-Ok-Some.ensures in
    let told = rw (c.in-Ok-Some-Allowed.field-0-is, c.in-Ok-Some-Allowed.field-0-0-is) at c.in-Ok-Some-Allowed.ensures in
    let within = c.requires in
    step_goes c.args.begins _ _ c.in-Step.step c.args.text.now _ _ _ _ _ c.args.at _ _ (omega (arith, within)) (sym q) (sym c.in-Some-answer_at.ensures) asks refl told

pub returns-in-Ok-clause-next : goal.returns-in-Ok-clause-next
returns-in-Ok-clause-next c =
    let q = rw (take_rest c.args.text.now c.args.at) at c.in-Some.ensures in
    let asks = rw (c.in-Ok-Some.field-0-is, c.in-Step.is) at c.in-Ok-Some.ensures in
    let told = rw (c.in-Ok-Some-Wrong.field-0-is, c.in-Ok-Some-Wrong.field-0-0-is) at c.in-Ok-Some-Wrong.ensures in
    let shows = rw c.history.ensures at c.shown_by-shown.ensures in
    let out = rw c.number_at-in-Ok-Some-Wrong.ensures at c.in-Ok.ensures in
    let within = c.requires in
    answer_wrong c.args.begins _ _ c.in-Step.step c.args.text.now _ _ _ _ _ _ c.args.at _ _ _ (omega (arith, within)) (sym q) (sym c.in-Some-answer_at.ensures) asks refl told shows out

pub returns-in-Ok-None-judge_answer-clause-fault : goal.returns-in-Ok-None-judge_answer-clause-fault
returns-in-Ok-None-judge_answer-clause-fault c =
    let q = rw (take_rest c.args.text.now c.args.at) at c.in-Some.ensures in
    let asks = rw (c.in-Ok-Some.field-0-is, c.in-Step.is) at c.in-Ok-Some.ensures in
    let told = rw c.in-Ok-None-judge_answer.field-0-is at c.in-Ok-None-judge_answer.ensures in
    bad_answer c.args.begins (world_of c.args.judge.now) (world_of c.judge_answer.new.judge) c.in-Step.step c.args.text.now _ _ _ _ c.args.at _ (sym q) asks (sym c.in-Some-answer_at.ensures) told (ap (λ k. k + 1) c.number_at-in-Ok-None-judge_answer.ensures)
