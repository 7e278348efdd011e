use Rattle.std.proofs.Common.{◌≤◌, length, arith, refl}
use Rattle.hot_chain.proofs.Chains.{root-there}
use Rattle.hot_chain.proofs.roots.root_of.Goals as goal

pub returns : goal.returns
returns c = λ root leads.
    let there : root ≤ length c.args.page.now.slots = (root-there c.args.page.now.slots root leads.starts).1 in
    c.loop-root.invariant root (omega (arith, c.slots-root-end.ensures.count)) leads

pub returns-then-leads_to : goal.returns-then-leads_to
returns-then-leads_to c = (c.if-leads_to.ensures.0 refl, c.loop-root.invariant)
