use Rattle.std.proofs.Common.{length, ◌≤◌, arith, sym, ap, subst}
use Rattle.prune.specs.Named.{named_at}
use Rattle.hot_chain.specs.Chain.{has_aborted, IsChain}
use Rattle.prune.specs.Marks.{AreNumbers}
use Rattle.prune.proofs.Numbers.{numbers-from_chain}
use Rattle.prune.proofs.Prefixes.{rest-is, numbers-rest, off-because, prefix-within_cut, prefix-right, taken, same-by}
use Rattle.prune.proofs.checking.has_prefix.Goals as goal

pub prefix_of-prefix-requires : goal.prefix_of-prefix-requires
prefix_of-prefix-requires c =
    let few : length c.args.page.now.slots ≤ 291 = omega (arith, c.slots-limit.ensures.count, c.slots-limit.ensures.limit) in
    subst AreNumbers (sym c.as_slice-numbers.ensures.value) (numbers-from_chain (has_aborted c.args.statuses.now) c.args.page.now.slots c.args.root c.chain-slots.result.items c.chain-slots.ensures few)

pub are_unnamed-requires : goal.are_unnamed-requires
are_unnamed-requires c =
    let few : length c.args.page.now.slots ≤ 291 = omega (arith, c.slots-limit.ensures.count, c.slots-limit.ensures.limit) in
    numbers-rest c.as_slice-numbers.result.now _ c.prefix_of-prefix.result c.prefix_of-prefix.ensures.within
    (rest-is c.as_slice-numbers.result.now c.prefix_of-prefix.result c.prefix_of-prefix.ensures.within)
    (subst AreNumbers (sym c.as_slice-numbers.ensures.value) (numbers-from_chain (has_aborted c.args.statuses.now) c.args.page.now.slots c.args.root c.chain-slots.result.items c.chain-slots.ensures few))

pub returns-then-cut_count-prefix : goal.returns-then-cut_count-prefix
returns-then-cut_count-prefix c = off-because _
    (prefix-within_cut c.args.statuses.now c.args.horizon.0 c.args.page.now.slots c.args.named.now c.args.root c.as_slice-numbers.result.now
    c.prefix_of-prefix.result c.cut_count.result
    (subst (IsChain (has_aborted c.args.statuses.now) c.args.page.now.slots c.args.root) (sym c.as_slice-numbers.ensures.value) c.chain-slots.ensures)
    c.prefix_of-prefix.ensures c.cut_count.ensures c.if-cut_count-prefix.true)

pub returns : goal.returns
returns c =
    prefix-right c.args.statuses.now c.args.horizon.0 c.args.page.now.slots c.args.named.now c.args.root c.as_slice-numbers.result.now
    _ c.prefix_of-prefix.result c.cut_count.result c.are_same.result
    (subst (IsChain (has_aborted c.args.statuses.now) c.args.page.now.slots c.args.root) (sym c.as_slice-numbers.ensures.value) c.chain-slots.ensures)
    c.prefix_of-prefix.ensures (rest-is c.as_slice-numbers.result.now c.prefix_of-prefix.result c.prefix_of-prefix.ensures.within) c.cut_count.ensures
    (omega (arith, c.if-cut_count-prefix.false))
    (taken c.are_unnamed.result _ c.if-not-are_unnamed.false c.are_unnamed.ensures)
    (taken c.become_unused.result _ c.if-not-become_unused.false c.become_unused.ensures)
    (same-by c.are_same.result _ _ _ _ (ap (named_at c.args.named.now) c.from.ensures) c.root_action.ensures c.are_same.ensures)
