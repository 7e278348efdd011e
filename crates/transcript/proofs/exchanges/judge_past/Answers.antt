use Rattle.plain_history.specs.Plain.{world_of}
use Rattle.transcript.proofs.ExchangeLemmas.{went_past, due_there, wrong_past}
use Rattle.transcript.proofs.exchanges.judge_past.Goals as goal

pub returns-in-Ok-Went-clause-next : goal.returns-in-Ok-Went-clause-next
returns-in-Ok-Went-clause-next c =
    let n = rw c.in-Ok-Went.field-0-is at c.in-Ok-Went.ensures.next in
    went_past c.args.begins _ _ c.args.text.now _ _ c.args.at c.in-Ok-Went.next c.in-Ok-Went.allowed c.in-Ok-Went.left_open n

pub go_on-requires : goal.go_on-requires
go_on-requires c =
    let n = rw c.in-Ok-Wrong.field-0-is at c.in-Ok-Wrong.ensures.next in
    due_there c.args.begins _ (world_of c.judge_next.new.judge) c.in-Ok-Wrong.step c.in-Ok-Wrong.due c.args.text.now _ _ c.args.at c.in-Ok-Wrong.next n

pub returns-in-Ok-clause-next : goal.returns-in-Ok-clause-next
returns-in-Ok-clause-next c =
    let n = rw c.in-Ok-Wrong.field-0-is at c.in-Ok-Wrong.ensures.next in
    wrong_past c.args.begins _ (world_of c.judge_next.new.judge) (world_of c.go_on.new.judge) c.in-Ok-Wrong.step c.in-Ok-Wrong.due c.args.text.now _ _ c.args.at c.in-Ok-Wrong.next n c.in-Ok.ensures
