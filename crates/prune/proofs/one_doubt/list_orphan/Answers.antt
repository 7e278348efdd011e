use Rattle.std.proofs.Common.{◌≤◌, ℕ, List, [], ◌∷◌, ◌++◌, length, arith, sym, ap, subst, ◌∙◌}
use Rattle.prune_actions.specs.declared.Action.{Action}
use Rattle.prune.specs.Pruning.{IsPlan}
use Rattle.prune.proofs.OnlyDoubt.{orphan-goes, orphan-stays}
use Rattle.prune.proofs.one_doubt.list_orphan.Goals as goal

pub returns-in-Some-clause-exact : goal.returns-in-Some-clause-exact
returns-in-Some-clause-exact c =
    let w = c.args.statuses.now in
    let slots = c.args.page.now.slots in
    let few : length slots ≤ 291 = omega (arith, c.slots-limit.ensures.count, c.slots-limit.ensures.limit) in
    subst (λ (xs : List (ℕ × Action)). IsPlan w c.args.horizon.0 slots xs)
    (sym (c.push.ensures.items ∙ ap (λ (xs : List (ℕ × Action)). xs ++ (c.args.number, c.in-Some.action) ∷ []) c.requires.blank))
    (orphan-goes w c.args.horizon.0 slots c.args.number few c.requires.known c.requires.dead c.requires.none c.in-Some.action (sym c.orphan_action.ensures ∙ c.in-Some.is))

pub returns-in_default-clause-exact : goal.returns-in_default-clause-exact
returns-in_default-clause-exact c =
    let w = c.args.statuses.now in
    let slots = c.args.page.now.slots in
    let few : length slots ≤ 291 = omega (arith, c.slots-limit.ensures.count, c.slots-limit.ensures.limit) in
    subst (λ (xs : List (ℕ × Action)). IsPlan w c.args.horizon.0 slots xs) (sym c.requires.blank)
    (orphan-stays w c.args.horizon.0 slots c.args.number few c.requires.known c.requires.dead c.requires.none (sym c.orphan_action.ensures ∙ c.in_default.is))
