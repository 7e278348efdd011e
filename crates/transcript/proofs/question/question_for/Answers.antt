use Rattle.transcript.proofs.AskingLemmas.{asks_finish}
use Rattle.transcript.proofs.question.question_for.Goals as goal

pub returns-in-Some-VacuumFinish : goal.returns-in-Some-VacuumFinish
returns-in-Some-VacuumFinish c =
    let says = rw (c.in-Some-VacuumFinish.is, c.in-Some-VacuumFinish.field-0-is) at c.in_ok-step.ensures in
    asks_finish _ _ says
