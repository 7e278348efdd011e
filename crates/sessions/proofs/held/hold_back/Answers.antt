use Rattle.std.proofs.Common.{take, sym, ap, ◌∙◌}
use Rattle.std.proofs.lemmas.List.Sums.{fold-append}
use Rattle.snapshot.specs.Snap.{earlier, earliest}
use Rattle.sessions.specs.Session.{kept_by, kept_xmin}
use Rattle.sessions.proofs.held.hold_back.Goals as goal

pub returns : goal.returns
returns c =
    let e = c.args.session.now in
    c.earlier_own.ensures ∙ (ap (λ y. earliest y (take 1 e.own.ids)) c.earlier_xmin.ensures
    ∙ sym (fold-append earlier c.args.x.0 (kept_xmin (kept_by e.isolation)) (take 1 e.own.ids)))
