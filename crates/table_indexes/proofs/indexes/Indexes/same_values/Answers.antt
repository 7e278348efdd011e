use Rattle.std.proofs.Common.{ℤ, List, suc, Some, get_or, pos, sym, ap, ◌∙◌, of_z}
use Rattle.std.specs.Int.{w64}
use Rattle.std.proofs.lemmas.Bool.{eq-eqb, eqb-true, true≢false}
use Rattle.table_indexes.specs.Indexes.{IndexesView}
use Rattle.table_indexes.proofs.Columns.{column-in_use, same-all, same-key}
use Rattle.table_indexes.proofs.indexes.Indexes.same_values.Goals as goal

pub returns-then-cols-c : goal.returns-then-cols-c
returns-then-cols-c c = (
  λ no. absurd (true≢false (sym no)),
  λ same. absurd (c.if-cols-c.true (ap (λ (cols : List ℤ). of_z w64 (get_or cols c.loop-c.c (pos 0))) c.cols-cols.ensures
      ∙ ap (λ z. of_z w64 z) (sym (same (suc c.loop-c.c)
      (column-in_use c.args.self.now.indexes c.self.inside.by_column (Some c.self.inside.by_key) c.index-self-c.result c.loop-c.c (ap (λ (v : IndexesView). v.indexes) c.self.view_is) c.self.invariant.size c.loop-c-test.true
      (sym c.is_some.ensures ∙ c.if-is_some.true)))))),
)

pub returns : goal.returns
returns c =
    let old = c.args.old.now in
    let new = c.args.new.now in (
      λ is. same-all c.args.self.now.indexes c.self.inside.by_column (Some c.self.inside.by_key) old new c.loop-c.c (ap (λ (v : IndexesView). v.indexes) c.self.view_is) c.self.invariant.size c.loop-c-test.false c.loop-c.invariant
          (sym c.key.ensures ∙ eqb-true c.key.result new.key is),
      λ same. eq-eqb c.key.result new.key (c.key.ensures ∙ same-key c.args.self.now.indexes c.self.inside.by_column c.self.inside.by_key old new (ap (λ (v : IndexesView). v.indexes) c.self.view_is) same),
    )
