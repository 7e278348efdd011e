use Rattle.std.proofs.Common.{◌≡◌, ◌<◌, ◌≤◌, sym, subst, true, false, Some, nat_eq, length, arith}
use Rattle.std.specs.List.{list_any}
use Rattle.hot_chain.specs.Chain.{has_aborted, next_in_chain, first_of, IsEnd}
use Rattle.hot_chain.proofs.Walks.{Walk, walk-none, walk-more, walk-room, new-from_contains, small-from_there, chain-from_walk}
use Rattle.hot_chain.proofs.walk.list_chain.Goals as goal

pub walk-init : goal.walk-init
walk-init c =
    let few : length c.args.page.now.slots ≤ 291 = omega (arith, c.slots-count.ensures.count, c.slots-count.ensures.limit) in
    rw c.clear.ensures (walk-none _ _ c.first-at.result c.first-at.ensures.value (small-from_there c.first-at.result _ c.first-at.ensures.there few))

pub push-requires : goal.push-requires
push-requires c =
    let next = next_in_chain (has_aborted c.args.statuses.now) c.args.page.now.slots in
    let first = first_of c.args.page.now.slots c.args.number in
    let w : Walk next first c.walk.visited.items (Some c.in-Some.n) = subst (Walk next first c.walk.visited.items) c.in-Some.is c.walk.invariant in
    let new = new-from_contains c.in-Some.n c.walk.visited.items c.deref.result.now false c.deref.ensures.0 (sym c.if-contains.ensures.value) in
    (omega arith, walk-room next first c.walk.visited.items c.in-Some.n w new)

pub walk-smaller : goal.walk-smaller
walk-smaller c =
    let next = next_in_chain (has_aborted c.args.statuses.now) c.args.page.now.slots in
    let first = first_of c.args.page.now.slots c.args.number in
    let w : Walk next first c.walk.visited.items (Some c.in-Some.n) = subst (Walk next first c.walk.visited.items) c.in-Some.is c.walk.invariant in
    let new = new-from_contains c.in-Some.n c.walk.visited.items c.deref.result.now false c.deref.ensures.0 (sym c.if-contains.ensures.value) in
    let room : length c.walk.visited.items < 292 = walk-room next first c.walk.visited.items c.in-Some.n w new in
    omega (arith, c.push.ensures.len)

pub walk-preserved : goal.walk-preserved
walk-preserved c =
    let few : length c.args.page.now.slots ≤ 291 = omega (arith, c.slots-count.ensures.count, c.slots-count.ensures.limit) in
    let next = next_in_chain (has_aborted c.args.statuses.now) c.args.page.now.slots in
    let first = first_of c.args.page.now.slots c.args.number in
    let w : Walk next first c.walk.visited.items (Some c.in-Some.n) = subst (Walk next first c.walk.visited.items) c.in-Some.is c.walk.invariant in
    let new = new-from_contains c.in-Some.n c.walk.visited.items c.deref.result.now false c.deref.ensures.0 (sym c.if-contains.ensures.value) in
    rw c.push.ensures.items (walk-more next first c.walk.visited.items c.in-Some.n c.next_in_chain-at.result w new c.next_in_chain-at.ensures.value
    (small-from_there c.next_in_chain-at.result _ c.next_in_chain-at.ensures.there few))

pub returns-then-contains : goal.returns-then-contains
returns-then-contains c =
    let e : list_any (nat_eq c.in-Some.n) c.walk.visited.items ≡ true =
    new-from_contains c.in-Some.n c.walk.visited.items c.deref.result.now true c.deref.ensures.0 (sym c.if-contains.ensures.value) in
    chain-from_walk _ _ _ c.walk.visited.items c.walk.at c.walk.invariant (subst (IsEnd c.walk.visited.items) (sym c.in-Some.is) e)
