use Rattle.std.proofs.Common.{◌∙◌, refl, sym, ap, arith, subst}
use Rattle.vacuum_passes.specs.View.{VacuumView}
use Rattle.vacuum_passes.specs.Keeps.{IsVacuum}
use Rattle.vacuum_passes.proofs.Stepping.{none-freed, held-before, held-few, visited-is, frees-none, visit-says}
use Rattle.vacuum_passes.proofs.VacuumLemmas.{collected-kept}
use Rattle.vacuum_passes.proofs.vacuum.Vacuum.visit.Goals as goal

pub clean_and_collect-next-requires-clause-few : goal.clean_and_collect-next-requires-clause-few
clean_and_collect-next-requires-clause-few c =
    let is = ap (λ (v : VacuumView). v.phase) c.self.view_is ∙ c.requires.phase in
    held-few _ c.self.inside.freed c.self.inside.store c.self.invariant.0 (none-freed c.self.inside.phase c.self.inside.freed is c.self.invariant.3) refl

pub clean_and_collect-next-requires-clause-below : goal.clean_and_collect-next-requires-clause-below
clean_and_collect-next-requires-clause-below c =
    let is = ap (λ (v : VacuumView). v.phase) c.self.view_is ∙ c.requires.phase in
    let onward = ap (λ (v : VacuumView). v.next) c.self.view_is in
    held-before _ c.self.inside.freed c.args.number c.self.inside.store c.self.invariant.0 is
    (none-freed c.self.inside.phase c.self.inside.freed is c.self.invariant.3) refl (omega (arith, onward, c.requires.next.onward))

pub invariant_of-self : goal.invariant_of-self
invariant_of-self c =
    let is = ap (λ (v : VacuumView). v.phase) c.self.view_is ∙ c.requires.phase in
    let onward = ap (λ (v : VacuumView). v.next) c.self.view_is in
    let pages = ap (λ (v : VacuumView). v.pages) c.self.view_is in
    let none = none-freed c.self.inside.phase c.self.inside.freed is c.self.invariant.3 in
    let e = c.clean_and_collect-next.ensures in (
      subst IsVacuum
          (sym (visited-is _ c.args.number e.dead c.self.inside.freed c.clean_and_collect-next.result.0 c.self.inside.store c.clean_and_collect-next.new.store
          c.clean_and_collect-next.result.1 none refl e.store e.onward e.phase c.self.invariant.0))
          (collected-kept _ c.args.number e.dead c.self.invariant.0 is (omega (arith, onward, c.requires.next.onward)) (omega (arith, pages, c.requires.next.within))
          e.lists.ascending),
      c.self.invariant.1,
      omega (arith, none),
      frees-none c.clean_and_collect-next.result.1 c.self.inside.freed none,
    )

pub returns : goal.returns
returns c =
    let is = ap (λ (v : VacuumView). v.phase) c.self.view_is ∙ c.requires.phase in
    let none = none-freed c.self.inside.phase c.self.inside.freed is c.self.invariant.3 in
    let e = c.clean_and_collect-next.ensures in
    visit-says c.args.heap.now c.clean_and_collect-next.new.heap _ c.args.self.now _ c.args.horizon.0 c.args.number c.self.view_is e.page e.dead e.lists
    (visited-is _ c.args.number e.dead c.self.inside.freed c.clean_and_collect-next.result.0 c.self.inside.store c.clean_and_collect-next.new.store
    c.clean_and_collect-next.result.1 none refl e.store e.onward e.phase c.self.invariant.0)
