use Rattle.std.proofs.Common.{◌≡◌, ◌≢◌, ◌∙◌, ◌+◌, ◌-◌, ◌≤◌, [], arith, sym, ap, subst, length, length-append}
use Rattle.std.proofs.lemmas.List.{length-take-le}
use Rattle.std.specs.Option.{option_to_list}
use Rattle.commit_status.specs.Changes.{numbers}
use Rattle.snapshot.specs.Own.{Own}
use Rattle.snapshot.proofs.Marks.{marks-some, marks-popped}
use Rattle.snapshot.proofs.own.OwnIds.release.Goals as goal

pub invariant_of-self : goal.invariant_of-self
invariant_of-self c =
    let fewer = length-append c.pop.new.self.items (option_to_list c.pop.result) in
    let old = ap length c.pop.ensures.items in
    let few = c.self.invariant.few in
    record { normal = c.self.invariant.normal; marked = marks-popped c.self.inside.marks.items c.pop.new.self.items c.pop.result _ c.pop.ensures.items c.self.invariant.marked; few = omega arith }

pub returns-clause-spare_marks : goal.returns-clause-spare_marks
returns-clause-spare_marks c =
    let marks = c.self.inside.marks in
    let P : Own → Type 0 = λ o. o.saved ≢ [] in
    let some = marks-some (numbers c.self.inside.ids.items) marks.items (subst P (sym c.self.view_is) c.requires) in
    let fewer : length c.pop.new.self.items ≡ length marks.items - 1 = ap length c.pop.ensures.rest ∙ length-take-le (length marks.items - 1) marks.items (omega arith) in
    let capacity : c.pop.new.self.capacity ≡ marks.capacity = c.pop.ensures.capacity in
    let fits : length marks.items ≤ marks.capacity = subst (λ n. n ≤ marks.capacity) c.len.ensures.value c.len.ensures.fits in
    let one : c.pop.new.self.capacity - length c.pop.new.self.items ≡ (marks.capacity - length marks.items) + 1 = omega arith in
    one ∙ ap (λ (o : Own). o.spare_marks + 1) c.self.view_is
