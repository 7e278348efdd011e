use Rattle.std.proofs.Common.{◌≡◌, ◌∙◌, ◌+◌, ◌-◌, ◌<◌, ◌++◌, ℕ, List, Some, length, take, drop, slice_get, false, sym, ap, refl, subst, arith, Contains}
use Rattle.std.specs.List.{filter}
use Rattle.std.proofs.lemmas.Bool.{OnTrue_at}
use Rattle.xid_circle.specs.declared.Tid.{Tid}
use Rattle.entry_columns.specs.Gaps.{IsInside}
use Rattle.index_entries.specs.declared.entry.Entry.{Entry}
use Rattle.index_entries.specs.declared.node.Swept.{Swept}
use Rattle.index_entries.specs.Lists.{stays}
use Rattle.index_entries.specs.Sweeps.{IsSwept}
use Rattle.entry_columns.specs.Columns.{ColumnsView}
use Rattle.index_leaves.proofs.GapLemmas.{none_goes, outside_left}
use Rattle.index_leaves.proofs.LeafLemmas.{swept_leaf}
use Rattle.index_leaves.proofs.leaf.LeafNode.sweep_from.Goals as goal

pub returns-then-holds-clause-swept : goal.returns-then-holds-clause-swept
returns-then-holds-clause-swept g c =
    let xs = c.self.inside.entries.entries in
    let gap = c.self.inside.gap in
    let swept = c.none_removed.result in
    let within : c.args.position < length xs = omega (arith, c.len-count.ensures.value, c.if-position-count.false) in
    let last : slice_get xs (length xs - 1) ≡ Some swept.last = c.self.invariant.last_apart (omega (arith, within)) ∙ ap Some (sym c.none_removed.ensures.last) in
    let inside : (t : Tid) → Contains c.args.dead.now t → IsInside gap t = OnTrue_at c.if-holds.true c.holds.ensures in
    let none : swept.removed + length xs ≡ length xs = omega (arith, c.none_removed.ensures.removed) in
    subst (λ (ys : List Entry). IsSwept ys ys c.args.position c.args.dead.now swept) (ap (λ (v : ColumnsView). v.entries) c.self.view_is)
    (swept_leaf xs xs c.args.position c.args.dead.now swept within (none_goes gap c.args.dead.now xs c.args.position c.self.invariant.outside inside) last none c.none_removed.ensures.more)

pub returns-then-not-remove_dead-clause-swept : goal.returns-then-not-remove_dead-clause-swept
returns-then-not-remove_dead-clause-swept g c =
    let xs = c.self.inside.entries.entries in
    let ys = c.remove_dead.new.self.entries in
    let from = c.args.position in
    let swept = c.none_removed-then-not-remove_dead.result in
    let within : from < length xs = omega (arith, c.len-count.ensures.value, c.if-position-count.false) in
    let last : slice_get xs (length xs - 1) ≡ Some swept.last = c.self.invariant.last_apart (omega (arith, within)) ∙ ap Some (sym c.none_removed-then-not-remove_dead.ensures.last) in
    let same = ap (λ (v : ColumnsView). length v.entries) (c.remove_dead.ensures.none c.if-not-remove_dead.true) in
    let gone : swept.removed + length ys ≡ length xs = omega (arith, c.none_removed-then-not-remove_dead.ensures.removed, same) in
    subst (λ (zs : List Entry). IsSwept zs ys from c.args.dead.now swept) (ap (λ (v : ColumnsView). v.entries) c.self.view_is)
    (swept_leaf xs ys from c.args.dead.now swept within c.remove_dead.ensures.entries last gone c.none_removed-then-not-remove_dead.ensures.more)

pub invariant_of-self-2 : goal.invariant_of-self-2
invariant_of-self-2 g c =
    let xs = c.self.inside.entries.entries in
    let ys = c.take_back.new.entries.entries in
    let made : ys ≡ take c.args.position xs ++ filter (stays c.args.dead.now) (drop c.args.position xs) = c.take_back.ensures.entries ∙ c.remove_dead.ensures.entries in
    record {
      apart = c.first_or-self-inside.ensures;
      last_apart = c.last_or-self-inside.ensures;
      outside = outside_left c.gap_behind-self-inside.result c.args.dead.now xs ys c.args.position c.gap_behind-self-inside.ensures made;
    }

pub returns-clause-swept : goal.returns-clause-swept
returns-clause-swept g c =
    let xs = c.self.inside.entries.entries in
    let ys = c.take_back.new.entries.entries in
    let from = c.args.position in
    let swept : Swept ℕ = record { last = c.self.inside.last; at = c.saturating_sub.result; removed = c.len-count.result - c.len.result; more = false } in
    let within : from < length xs = omega (arith, c.len-count.ensures.value, c.if-position-count.false) in
    let last = c.self.invariant.last_apart (omega (arith, within)) in
    let gone : c.len-count.result - c.len.result + length ys ≡ length xs = omega (arith, c.len-count.ensures.value, c.len.ensures.value, c.remove_dead.ensures.shorter, ap length c.take_back.ensures.entries) in
    let made : ys ≡ take from xs ++ filter (stays c.args.dead.now) (drop from xs) = c.take_back.ensures.entries ∙ c.remove_dead.ensures.entries in
    subst (λ (zs : List Entry). IsSwept zs ys from c.args.dead.now swept) (ap (λ (v : ColumnsView). v.entries) c.self.view_is)
    (swept_leaf xs ys from c.args.dead.now swept within made last gone refl)
