use Rattle.std.proofs.Common.{◌≡◌, true, false, sym, ap, ◌∙◌, refl}
use Rattle.std.specs.Option.{unwrap_or}
use Rattle.prune.proofs.Single.{single-is}
use Rattle.prune.proofs.marks.single_of.Goals as goal

pub returns-in-Dead : goal.returns-in-Dead
returns-in-Dead c =
    single-is c.args.statuses.now c.args.horizon.0 c.args.page.now.slots c.args.root c.unwrap_or-start.result c.in_ok-header.header true (c.unwrap_or-start.ensures ∙ ap (λ o. unwrap_or o c.args.root) c.redirect.ensures.value)
    (sym c.in_ok-header.ensures.value) (sym c.is_hot_updated.ensures ∙ c.if-is_hot_updated.false) (λ t. c.fate_of.ensures.0 c.in-Dead.is, λ d. refl)

pub returns-in_default : goal.returns-in_default
returns-in_default c =
    single-is c.args.statuses.now c.args.horizon.0 c.args.page.now.slots c.args.root c.unwrap_or-start.result c.in_ok-header.header false (c.unwrap_or-start.ensures ∙ ap (λ o. unwrap_or o c.args.root) c.redirect.ensures.value)
    (sym c.in_ok-header.ensures.value) (sym c.is_hot_updated.ensures ∙ c.if-is_hot_updated.false)
    (λ t. absurd (let f : false ≡ true = t in cc), λ d. absurd (c.in_default.not-Dead (c.fate_of.ensures.1 d)))
