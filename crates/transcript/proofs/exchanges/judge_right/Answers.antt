use Rattle.transcript.proofs.exchanges.judge_right.Goals as goal

pub returns-in-Ok-Went-clause-next : goal.returns-in-Ok-Went-clause-next
returns-in-Ok-Went-clause-next c = rw c.in-Ok-Went.field-0-is at c.in-Ok-Went.ensures.next

pub returns-in-Ok-Wrong-clause-next : goal.returns-in-Ok-Wrong-clause-next
returns-in-Ok-Wrong-clause-next c =
    let n = rw c.in-Ok-Wrong.field-0-is at c.in-Ok-Wrong.ensures.next in
    (c.in-Ok-Wrong.field-0-0, c.in-Ok-Wrong.field-0-1, c.in-Ok-Wrong.field-0-2, n)
