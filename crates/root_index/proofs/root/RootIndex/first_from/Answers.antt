use Rattle.std.proofs.Common.{ℤ, ◌∙◌, sym, ap, subst}
use Rattle.std.specs.Int.{w128}
use Rattle.std.proofs.lemmas.Int.{to_z-of_z}
use Rattle.index_entries.specs.Sets.{IsBelow, IsLeast}
use Rattle.root_index.specs.Kinds.{kind_view}
use Rattle.root_index.specs.View.{IndexView}
use Rattle.root_index.proofs.root.RootIndex.first_from.Goals as goal

pub returns-in-ByKey-clause-found : goal.returns-in-ByKey-clause-found
returns-in-ByKey-clause-found c =
    subst (λ (v : IndexView). IsLeast v.entries (λ e. ¬ IsBelow c.args.value c.args.key e) c.first_from.result.found) (sym (ap kind_view c.in-ByKey.is) ∙ c.self.view_is)
    (subst (λ (v : ℤ). IsLeast c.in-ByKey.index.entries (λ e. ¬ IsBelow v c.args.key e) c.first_from.result.found) (to_z-of_z w128 c.args.value c.ranges.value) c.first_from.ensures.found)

pub returns-in-ByColumn-clause-found : goal.returns-in-ByColumn-clause-found
returns-in-ByColumn-clause-found c =
    subst (λ (v : IndexView). IsLeast v.entries (λ e. ¬ IsBelow c.args.value c.args.key e) c.first_from-in-ByColumn.result.found) (sym (ap kind_view c.in-ByColumn.is) ∙ c.self.view_is)
    (subst (λ (v : ℤ). IsLeast c.in-ByColumn.index.entries (λ e. ¬ IsBelow v c.args.key e) c.first_from-in-ByColumn.result.found) (to_z-of_z w128 c.args.value c.ranges.value)
    c.first_from-in-ByColumn.ensures.found)

pub returns-in-Narrow-clause-found : goal.returns-in-Narrow-clause-found
returns-in-Narrow-clause-found c =
    subst (λ (v : IndexView). IsLeast v.entries (λ e. ¬ IsBelow c.args.value c.args.key e) c.first_from-in-Narrow.result.found) (sym (ap kind_view c.in-Narrow.is) ∙ c.self.view_is)
    (subst (λ (v : IndexView). IsLeast v.entries (λ e. ¬ IsBelow c.args.value c.args.key e) c.first_from-in-Narrow.result.found) c.entries.ensures
    (subst (λ (v : ℤ). IsLeast c.entries.result.now.entries (λ e. ¬ IsBelow v c.args.key e) c.first_from-in-Narrow.result.found) (to_z-of_z w128 c.args.value c.ranges.value)
    c.first_from-in-Narrow.ensures.found))
