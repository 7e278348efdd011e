use Rattle.std.proofs.Common.{sym, ap, ◌∙◌}
use Rattle.std.specs.Prelude.{option_copied}
use Rattle.snapshot.specs.Snap.{earlier, earliest}
use Rattle.sessions.specs.Session.{kept_xmin}
use Rattle.sessions.proofs.session.SessionIsolation.earlier_xmin.Goals as goal

pub returns-in-Some : goal.returns-in-Some
returns-in-Some c =
    let kept = sym c.lasting_snapshot.ensures ∙ ap option_copied c.in-Some.is in
    c.earlier.ensures.value ∙ (ap (λ n. earlier c.args.x.0 n) c.xmin.ensures.value ∙ ap (λ o. earliest c.args.x.0 (kept_xmin o)) (sym kept))

pub returns-in-None : goal.returns-in-None
returns-in-None c =
    let kept = sym c.lasting_snapshot.ensures ∙ ap option_copied c.in-None.is in
    ap (λ o. earliest c.args.x.0 (kept_xmin o)) (sym kept)
