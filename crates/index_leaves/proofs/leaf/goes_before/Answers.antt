use Rattle.std.proofs.Common.{◌∙◌, sym}
use Rattle.dead_places.proofs.PlaceLemmas.{less_from_test}
use Rattle.index_entries.specs.Order.{comparison}
use Rattle.index_leaves.proofs.LeafLemmas.{before_one, before_none}
use Rattle.index_leaves.proofs.leaf.goes_before.Goals as goal

pub returns-in-Some : goal.returns-in-Some
returns-in-Some g c = λ yes.
    before_one c.args.entries.now.entries c.args.sought.now c.in-Some.behind c.args.is_last c.args.place c.requires (sym c.get.ensures ∙ c.in-Some.is)
    (less_from_test (comparison c.args.sought.now c.in-Some.behind) (sym c.is_before.ensures ∙ yes))

pub returns-in-None : goal.returns-in-None
returns-in-None g c = λ yes. before_none c.args.entries.now.entries c.args.sought.now c.args.is_last c.args.place (sym c.get.ensures ∙ c.in-None.is) yes
