use Rattle.std.proofs.Common.{suc}
use Rattle.std.proofs.lemmas.Result.{on_ok_weaker}
use Rattle.index_making.proofs.CurrentLemmas.{row-entered}
use Rattle.index_making.proofs.making.enter_current.Goals as goal

pub returns-in-Some-clause-adds : goal.returns-in-Some-clause-adds
returns-in-Some-clause-adds c =
    on_ok_weaker c.add.result
    (λ adds. row-entered c.args.reader.now.statuses.now c.args.page.now.slots (suc c.args.column) c.args.place c.args.filling.now c.add.new.self
    c.in-Some.row _ c.in-Some.ensures c.entry_of.ensures.entry adds)
    c.add.ensures
