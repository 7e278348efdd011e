use Rattle.std.proofs.Common.{◌≤◌, length, sym, ap, ◌∙◌, subst, arith}
use Rattle.std.specs.Option.{option_copied}
use Rattle.std.proofs.lemmas.Bool.Decides.{nat_tests}
use Rattle.heap_write.specs.Heap.{HeapView}
use Rattle.heap_write.specs.Steps.{HasNoneDead}
use Rattle.heap_write.specs.contracts.heap.HeapState.{the_view}
use Rattle.heap_write.proofs.HintLemmas.{known-none_dead}
use Rattle.heap_write.proofs.heap.HeapState.knows_none_dead.Goals as goal

pub returns-in-Some-Some-Some : goal.returns-in-Some-Some-Some
returns-in-Some-Some-Some c = λ early.
    let some = c.in-Some-Some-Some in
    let few : length some.page.now.slots ≤ 291 = omega (arith, c.slots-limit.ensures.count, c.slots-limit.ensures.limit) in
    let le : some.turn ≤ some.known = grind (arith, nat_tests) in
    subst (λ (h : HeapView). HasNoneDead h c.args.number c.args.horizon.0) c.self.view_is
    (known-none_dead (the_view c.self.inside) c.self.inside.hints.pages c.args.number c.args.horizon.0 some.known some.turn some.page.now c.fact_window.ensures c.self.invariant.1
    (sym c.page.ensures ∙ ap option_copied some.is-0) few (sym c.turn.ensures ∙ some.is-1) some.ensures''.0 some.ensures''.1 le)
