use Rattle.std.proofs.Common.{◌≡◌, ◌<◌, length, rules, subst, slice_set}
use Rattle.space_maps.specs.Hints.{HintsView, hint_on, Lowers}
use Rattle.space_maps.proofs.HintsLemmas.{pages_in, lowers-here, kept-others}
use Rattle.space_maps.proofs.prune_hints.PruneHints.lower.Goals as goal

pub returns-then-index-self-clause-here : goal.returns-then-index-self-clause-here
returns-then-index-self-clause-here c =
    let hints = c.self.inside.hints.items in
    let n = c.args.number in
    let within : n < length hints = search rules in
    let after = hint_on (pages_in c.self.inside.epoch (slice_set hints n c.lower.new.self)) n in
    subst (λ (v : HintsView). Lowers (hint_on v.pages n) c.args.turn c.args.slot after) c.self.view_is
    (lowers-here c.self.inside.epoch hints n c.args.turn c.args.slot c.index.result.now c.index_mut.result.now c.lower.new.self within c.index.ensures c.index_mut.ensures.value
    c.if-index-self.true c.lower.ensures.epoch c.lower.ensures.lowers)

pub returns-then-index-self-clause-others : goal.returns-then-index-self-clause-others
returns-then-index-self-clause-others c = λ m other.
    let after = hint_on (pages_in c.self.inside.epoch (slice_set c.self.inside.hints.items c.args.number c.lower.new.self)) m in
    subst (λ (v : HintsView). after ≡ hint_on v.pages m) c.self.view_is (kept-others c.self.inside.epoch c.self.inside.hints.items c.args.number m c.lower.new.self other)
