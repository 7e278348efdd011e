use Rattle.std.proofs.Common.{◌≡◌, ◌∙◌, true, false, sym, ap}
use Rattle.std.specs.Option.{option_and_then}
use Rattle.page_sheet.specs.Slots.{target_of}
use Rattle.prune.proofs.one_doubt.redirects_to.Goals as goal

pub returns-else-is_redirected : goal.returns-else-is_redirected
returns-else-is_redirected c n is =
    let yes = c.is_redirected.ensures.1 (n, ap (option_and_then target_of) is) in
    let e : true ≡ false = sym yes ∙ c.if-is_redirected.false in cc
