use Rattle.std.proofs.Common.{◌≤◌, length, take, reverse, subst, arith}
use Rattle.std.proofs.lemmas.List.{length-map, length-reverse}
use Rattle.commit_status.specs.Changes.{numbers}
use Rattle.snapshot.specs.Own.{Own, ArePrefixes}
use Rattle.snapshot.proofs.LevelMarks.{marks-numbers, prefixes-marks}
use Rattle.snapshot.proofs.own.OwnIds.fact_prefixes.Goals as goal

pub returns-clause-prefixes : goal.returns-clause-prefixes
returns-clause-prefixes c =
    let ids = c.self.inside.ids.items in
    let marks = reverse c.self.inside.marks.items in
    let P : Own → Type 0 = λ o. ArePrefixes o.ids o.saved in
    subst P c.self.view_is (prefixes-marks (numbers ids) marks (marks-numbers ids marks c.self.invariant.marked))

pub returns-clause-few : goal.returns-clause-few
returns-clause-few c =
    let few = c.self.invariant.few in
    let long = length-reverse c.self.inside.marks.items in
    let same = length-map (reverse c.self.inside.marks.items) (λ mark. take mark (numbers c.self.inside.ids.items)) in
    let P : Own → Type 0 = λ o. length o.saved ≤ 32 in
    subst P c.self.view_is (omega arith)
