use Rattle.std.proofs.Common.{◌≡◌, ◌≤◌, ℕ, false, true, List, length, arith, sym, subst}
use Rattle.prune_actions.specs.declared.Action.{Action}
use Rattle.prune.specs.Pruning.{IsPlan}
use Rattle.prune.proofs.Idle.{idle-plan}
use Rattle.prune.proofs.OnlyDoubt.{alive-all}
use Rattle.prune.proofs.one_doubt.list_one.Goals as goal

pub returns-then-not-is_dead_at-clause-exact : goal.returns-then-not-is_dead_at-clause-exact
returns-then-not-is_dead_at-clause-exact c = λ _.
    let w = c.args.statuses.now in
    let slots = c.args.page.now.slots in
    let few : length slots ≤ 291 = omega (arith, c.slots-limit.ensures.count, c.slots-limit.ensures.limit) in
    subst (λ (xs : List (ℕ × Action)). IsPlan w c.args.horizon.0 slots xs) (sym c.requires.blank)
    (idle-plan w c.args.horizon.0 slots few (alive-all w c.args.horizon.0 slots c.args.number few c.requires.known
    (λ dead. absurd (let e : false ≡ true = c.if-not-is_dead_at.ensures.1 dead in cc))))
