use Rattle.std.proofs.Common.{◌≡◌, ◌∙◌, ◌++◌, ap, take, drop, List}
use Rattle.std.proofs.lemmas.List.{take-append-drop}
use Rattle.std.proofs.lemmas.List.Elements.{All-same, All-take, All-drop}
use Rattle.index_entries.specs.declared.entry.Entry.{Entry}
use Rattle.entry_columns.specs.Columns.{ColumnsView}
use Rattle.entry_columns.specs.Gaps.{IsInside}
use Rattle.index_leaves.proofs.leaf.LeafNode.split.Goals as goal

pub returns-clause-entries : goal.returns-clause-entries
returns-clause-entries g c =
    ap (λ (xs : List Entry). xs ++ c.move_before.new.self.entries) c.move_before.ensures.moved
    ∙ ap (λ (xs : List Entry). take c.kept_with-kept.result c.swap.new.y.entries ++ xs) c.move_before.ensures.stay
    ∙ take-append-drop c.kept_with-kept.result c.swap.new.y.entries
    ∙ ap (λ (v : ColumnsView). v.entries) (c.swap.ensures.y_after ∙ c.self.view_is)

pub invariant_of-self : goal.invariant_of-self
invariant_of-self g c =
    let gap = c.self.inside.gap in
    let xs = c.self.inside.entries.entries in
    let was : c.swap.new.y.entries ≡ xs = ap (λ (v : ColumnsView). v.entries) c.swap.ensures.y_after in
    record {
      apart = c.first_or-self-inside.ensures;
      last_apart = c.last_or-self-inside.ensures;
      outside = All-same (λ e. ¬ IsInside gap e.tid) c.move_before.new.lower.entries (take c.kept_with-kept.result xs)
          (c.move_before.ensures.moved ∙ ap (take c.kept_with-kept.result) was) (All-take (λ e. ¬ IsInside gap e.tid) c.kept_with-kept.result xs c.self.invariant.outside);
    }

pub invariant_of-upper : goal.invariant_of-upper
invariant_of-upper g c =
    let gap = c.self.inside.gap in
    let xs = c.self.inside.entries.entries in
    let was : c.swap.new.y.entries ≡ xs = ap (λ (v : ColumnsView). v.entries) c.swap.ensures.y_after in
    record {
      apart = c.first_or-upper-inside.ensures;
      last_apart = c.last_or-upper-inside.ensures;
      outside = All-same (λ e. ¬ IsInside gap e.tid) c.move_before.new.self.entries (drop c.kept_with-kept.result xs)
          (c.move_before.ensures.stay ∙ ap (drop c.kept_with-kept.result) was) (All-drop (λ e. ¬ IsInside gap e.tid) c.kept_with-kept.result xs c.self.invariant.outside);
    }
