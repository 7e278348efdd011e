use Rattle.std.proofs.Common.{◌≡◌, ◌∙◌, ◌≤◌, ℕ, ℤ, sym, ap, subst, length, true, false}
use Rattle.std.specs.Int.{w128}
use Rattle.std.proofs.lemmas.Bool.{true≢false}
use Rattle.std.proofs.lemmas.Int.{to_z-of_z}
use Rattle.index_entries.specs.declared.node.TheConstants.{MOST_PARTS}
use Rattle.index_entries.proofs.SetLemmas.{on_err}
use Rattle.entry_columns.specs.Fits.{FitsLabel}
use Rattle.root_index.specs.View.{IndexView}
use Rattle.root_index.specs.Kinds.{kind_view}
use Rattle.root_index.proofs.root.RootIndex.widen_for.Goals as goal

narrow-fits : (index now : IndexView) (value read : ℤ) (key : ℕ) → index ≡ now → read ≡ value → index.is_by_key ≡ false → index.is_narrow ≡ true
    → FitsLabel now.is_by_key now.is_narrow value key → FitsLabel false true read key
narrow-fits index now value read key is same by_key narrow fits =
    subst (λ v. FitsLabel false true v key) (sym same) (subst (λ n. FitsLabel false n value key) narrow (subst (λ k. FitsLabel k index.is_narrow value key) by_key
    (subst (λ (v : IndexView). FitsLabel v.is_by_key v.is_narrow value key) (sym is) fits)))

pub returns-in_err-wide-in-Narrow-clause-refused : goal.returns-in_err-wide-in-Narrow-clause-refused
returns-in_err-wide-in-Narrow-clause-refused c =
    let is : c.in-Narrow.index ≡ c.args.self.now = sym (ap kind_view c.in-Narrow.is) ∙ c.self.view_is in
    on_err c.from_residual.result _ (
      subst (λ (v : IndexView). MOST_PARTS ≤ length v.entries) is c.in_err-wide-in-Narrow.ensures.refused,
      λ fits. true≢false (sym (c.if-fits.ensures.1
          (narrow-fits c.in-Narrow.index c.args.self.now c.args.value _ c.args.key is (to_z-of_z w128 c.args.value c.ranges.value) c.fact_kind.ensures.kind c.fact_kind.ensures.narrow fits))),
    )

pub returns-in_ok-wide-in-Narrow-clause-same : goal.returns-in_ok-wide-in-Narrow-clause-same
returns-in_ok-wide-in-Narrow-clause-same c =
    let is : c.in-Narrow.index ≡ c.args.self.now = sym (ap kind_view c.in-Narrow.is) ∙ c.self.view_is in
    λ fits. absurd (true≢false (sym (c.if-fits.ensures.1
    (narrow-fits c.in-Narrow.index c.args.self.now c.args.value _ c.args.key is (to_z-of_z w128 c.args.value c.ranges.value) c.fact_kind.ensures.kind c.fact_kind.ensures.narrow fits))))
