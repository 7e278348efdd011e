use Rattle.std.proofs.Common.{sym, ◌∙◌}
use Rattle.prune.proofs.Redirects.{several-begin}
use Rattle.prune.proofs.one_doubt.roots_at.Goals as goal

pub returns-in_default : goal.returns-in_default
returns-in_default c =
    several-begin c.args.page.now.slots c.args.start c.redirects_to-redirects.result c.requires (sym c.is_root.ensures ∙ c.if-not-is_root.false) c.in_default.not-NoSlot
    c.redirects_to-redirects.ensures
