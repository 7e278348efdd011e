use Rattle.std.proofs.Common.{◌∙◌, ◌+◌, List, length, inl, inr, ⊎_elim, rules, sym, ap, subst, arith}
use Rattle.std.proofs.lemmas.List.Edits.{length-insert}
use Rattle.index_entries.specs.declared.entry.Entry.{Entry}
use Rattle.index_entries.specs.Lists.{IsFirst, IsLast}
use Rattle.entry_columns.specs.Columns.{ColumnsView}
use Rattle.entry_columns.specs.Gaps.{AreOutside}
use Rattle.index_leaves.specs.Keeps.{IsLeaf}
use Rattle.index_leaves.specs.Lists.{ListsView, Outgrows}
use Rattle.index_leaves.specs.declared.leaf.Leaf.TheInside.{Inside}
use Rattle.index_leaves.proofs.GapLemmas.{outside_inserted}
use Rattle.index_leaves.proofs.ApartLemmas.{first_put, last_put}
use Rattle.index_leaves.proofs.ListLemmas.{grows_long}
use Rattle.index_leaves.proofs.leaf.LeafNode.insert.Goals as goal
use Rattle.index_leaves.proofs.leaf.LeafNode.insert.Goals.{then-count-eq0+in_ok-make_place, else-count-eq0}

pub invariant_of-self-2 : goal.invariant_of-self-2
invariant_of-self-2 g c =
    let inside = c.if-count-eq0.self-inside in
    let xs = inside.entries.entries in
    let first = c.first_with-self-inside.result in
    let last = c.last_with-self-inside.result in
    let kept : IsLeaf inside.first inside.last xs inside.gap = elim c.if-count-eq0.branch [
      | then-count-eq0+in_ok-make_place w ↦
          subst (λ (i : Inside g.row.L.Denot). IsLeaf i.first i.last i.entries.entries i.gap) (sym w.self-inside-is)
          (subst (λ (xs : List Entry). IsLeaf c.self.inside.first c.self.inside.last xs c.self.inside.gap) (sym w.make_place.ensures.entries) c.self.invariant)
      | else-count-eq0 w ↦ subst (λ (i : Inside g.row.L.Denot). IsLeaf i.first i.last i.entries.entries i.gap) (sym w.self-inside-is) c.self.invariant
    ] in
    record {
      apart = subst (IsFirst first) (sym c.insert.ensures.entries)
          (first_put inside.first first c.args.entry xs c.args.position (search rules) kept.apart c.first_with-self-inside.ensures.front c.first_with-self-inside.ensures.behind);
      last_apart = subst (IsLast last) (sym c.insert.ensures.entries)
          (last_put inside.last last c.args.entry xs c.args.position (search rules) kept.last_apart (search rules) (search rules));
      outside = subst (AreOutside c.without-self-inside.result) (sym c.insert.ensures.entries)
          (outside_inserted inside.gap c.without-self-inside.result xs c.args.position c.args.entry kept.outside c.without-self-inside.ensures.kept c.without-self-inside.ensures.out);
    }

-- a list that was set aside is taken for a leaf that is long then
pub returns-clause-reserve : goal.returns-clause-reserve
returns-clause-reserve g c = λ has. elim c.if-count-eq0.branch [
  | then-count-eq0+in_ok-make_place w ↦
      let left = ap (λ (s : ListsView). s.large) w.spares-is in
      let same = ap (λ (i : Inside g.row.L.Denot). i.entries) w.self-inside-is in
      let room = ap (λ (v : ColumnsView). v.room) same in
      let made = ap length c.insert.ensures.entries
      ∙ length-insert c.if-count-eq0.self-inside.entries.entries c.args.position c.args.entry (search rules)
      ∙ ap (λ (v : ColumnsView). length v.entries + 1) same
      ∙ ap (λ (xs : List Entry). length xs + 1) w.make_place.ensures.entries in
      ⊎_elim (λ more. inl (omega (arith, has, more, left)))
      (λ outgrown. inr (grows_long c.args.self.now w.make_place.new.entries c.insert.new.self (subst (λ (v : ColumnsView). Outgrows v w.make_place.new.entries) c.self.view_is outgrown) (omega (arith, room, c.insert.ensures.room))
      (made ∙ ap (λ (v : ColumnsView). length v.entries + 1) c.self.view_is)))
      w.make_place.ensures.taken
  | else-count-eq0 w ↦ let left = ap (λ (s : ListsView). s.large) w.spares-is in inl (omega (arith, has, left))
]
