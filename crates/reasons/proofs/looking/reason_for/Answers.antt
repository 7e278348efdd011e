use Rattle.std.proofs.Common.{◌≡◌, sym, ◌∙◌, true, false}
use Rattle.reasons.proofs.ReasonLemmas.{of-foreign, reason-decides}
use Rattle.reasons.proofs.looking.reason_for.Goals as goal

pub returns-clause-decides : goal.returns-clause-decides
returns-clause-decides c =
    let r = c.args.reader.now in
    reason-decides r.statuses.now r.snapshot.now r.own.now.ids c.args.x.0 c.reason_of.result
    (of-foreign r.statuses.now r.snapshot.now r.own.now.ids c.args.x.0 c.reason_of.result
    (λ mine. absurd (let e : false ≡ true = sym c.if-contains.false ∙ c.contains.ensures.1 mine in cc))
    c.reason_of.ensures)
