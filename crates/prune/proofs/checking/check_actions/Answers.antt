use Rattle.std.proofs.Common.{◌≤◌, ◌+◌, ℕ, arith, List, length, sym, subst}
use Rattle.prune.specs.Actions.{AreInOrder}
use Rattle.prune.specs.Marks.{PlainlyStays, ListsAllBut}
use Rattle.prune.proofs.Prefixes.{taken}
use Rattle.prune.proofs.CheckLemmas.{order-more, checked, checks-can_apply}
use Rattle.prune.proofs.Glancing.{listed-doubtful}
use Rattle.prune.proofs.Roots.{loose-everywhere}
use Rattle.prune.proofs.checking.check_actions.Goals as goal

pub mark_page-requires : goal.mark_page-requires
mark_page-requires c = record {
  blank = λ n. loose-everywhere 292 n;
  doubtful = subst (λ (xs : List ℕ). ListsAllBut (PlainlyStays c.args.statuses.now c.args.horizon.0 c.args.page.now.slots) 0 xs (length c.args.page.now.slots + 1))
      (sym c.as_slice.ensures.value)
      (listed-doubtful c.args.statuses.now c.args.horizon.0 c.args.page.now.slots c.list_doubtful.new.doubtful.items c.list_doubtful.ensures);
}

pub named_by-named-requires : goal.named_by-named-requires
named_by-named-requires c =
    let o : AreInOrder c.slots.result 0 c.args.actions.now = taken c.are_in_order.result _ c.if-not-are_in_order.false c.are_in_order.ensures in
    order-more c.slots.result 291 0 c.args.actions.now c.slots.ensures.limit o

pub returns-then-have_prefixes-clause-exact : goal.returns-then-have_prefixes-clause-exact
returns-then-have_prefixes-clause-exact c =
    let few : length c.args.page.now.slots ≤ 291 = omega (arith, c.slots.ensures.count, c.slots.ensures.limit) in
    let o : AreInOrder c.slots.result 0 c.args.actions.now = taken c.are_in_order.result _ c.if-not-are_in_order.false c.are_in_order.ensures in
    let p : AreInOrder (length c.args.page.now.slots) 0 c.args.actions.now =
    subst (λ (n : ℕ). AreInOrder n 0 c.args.actions.now) c.slots.ensures.count o in
    checked c.args.statuses.now c.args.horizon.0 c.args.page.now c.args.change c.args.actions.now c.named_by-named.result c.mark_page.new.marks c.are_accounted.result few
    (taken c.is_fresh.result _ c.if-not-is_fresh.false c.is_fresh.ensures) p
    c.named_by-named.ensures
    c.mark_page.ensures (taken c.have_prefixes.result _ c.if-have_prefixes.true c.have_prefixes.ensures) c.are_accounted.ensures

pub returns-then-have_prefixes-clause-can_apply : goal.returns-then-have_prefixes-clause-can_apply
returns-then-have_prefixes-clause-can_apply c = λ yes.
    let few : length c.args.page.now.slots ≤ 291 = omega (arith, c.slots.ensures.count, c.slots.ensures.limit) in
    let o : AreInOrder c.slots.result 0 c.args.actions.now = taken c.are_in_order.result _ c.if-not-are_in_order.false c.are_in_order.ensures in
    let p : AreInOrder (length c.args.page.now.slots) 0 c.args.actions.now =
    subst (λ (n : ℕ). AreInOrder n 0 c.args.actions.now) c.slots.ensures.count o in
    checks-can_apply c.args.statuses.now c.args.horizon.0 c.args.page.now c.args.change c.args.actions.now
    ((checked c.args.statuses.now c.args.horizon.0 c.args.page.now c.args.change c.args.actions.now c.named_by-named.result c.mark_page.new.marks c.are_accounted.result few
    (taken c.is_fresh.result _ c.if-not-is_fresh.false c.is_fresh.ensures) p
    c.named_by-named.ensures
    c.mark_page.ensures (taken c.have_prefixes.result _ c.if-have_prefixes.true c.have_prefixes.ensures) c.are_accounted.ensures).0 yes)
