use Rattle.std.proofs.Common.{sym}
use Rattle.hot_chain.specs.Chain.{has_aborted}
use Rattle.hot_chain.proofs.Chains.{leads-by}
use Rattle.hot_chain.proofs.Walks.{new-from_contains}
use Rattle.hot_chain.proofs.roots.leads_to.Goals as goal

pub returns-then-is_root : goal.returns-then-is_root
returns-then-is_root c =
    leads-by (has_aborted c.args.statuses.now) c.args.page.now.slots c.args.root c.args.slot c.chain.result.items c.contains.result
    (sym c.if-is_root.ensures) c.chain.ensures
    (new-from_contains c.args.slot c.chain.result.items c.deref.result.now c.contains.result c.deref.ensures.0 (sym c.contains.ensures.value))
