use Rattle.reasons.proofs.VerdictLemmas.{verdict-decides}
use Rattle.reasons.proofs.looking.verdict_on.Goals as goal

pub returns-clause-decides : goal.returns-clause-decides
returns-clause-decides c =
    let r = c.args.reader.now in
    verdict-decides r.statuses.now r.snapshot.now r.own.now.ids c.args.header.now (record { maker = c.maker_of.result; deleter = c.deleter_of.result })
    (record { maker = c.maker_of.ensures; deleter = c.deleter_of.ensures })
