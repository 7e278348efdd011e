use Rattle.std.proofs.Common.{◌∙◌, sym, arith}
use Rattle.dead_places.proofs.PlaceLemmas.{less_from_test}
use Rattle.index_entries.specs.Order.{comparison}
use Rattle.index_leaves.proofs.LeafLemmas.{behind_one}
use Rattle.index_leaves.proofs.leaf.goes_behind.Goals as goal

pub returns-in-Some : goal.returns-in-Some
returns-in-Some g c = λ yes.
    behind_one c.args.entries.now.entries c.args.sought.now c.in-Some.before c.args.place c.requires (omega (arith, c.if-place-eq0.false)) (sym c.get.ensures ∙ c.in-Some.is)
    (less_from_test (comparison c.in-Some.before c.args.sought.now) (sym c.is_before.ensures ∙ yes))
