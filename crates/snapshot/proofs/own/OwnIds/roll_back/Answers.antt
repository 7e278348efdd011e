use Rattle.std.proofs.Common.{◌≡◌, ◌∙◌, ◌≤◌, List, length, take, reverse, sym, ap, subst}
use Rattle.std.proofs.lemmas.List.{take-map}
use Rattle.xid_circle.specs.declared.Xid.{Xid}
use Rattle.commit_status.specs.Changes.{numbers}
use Rattle.snapshot.specs.Own.{Own, newest, prefixes, AreOwnIds}
use Rattle.snapshot.proofs.Marks.{normal-take, marks-cut, prefixes-cut}
use Rattle.snapshot.proofs.own.OwnIds.roll_back.Goals as goal

pub invariant_of-self : goal.invariant_of-self
invariant_of-self c =
    let ids = c.self.inside.ids.items in
    let P : Own → Type 0 = λ o. newest o.saved ≡ take c.newest_mark-count.result o.ids in
    let Q : Own → Type 0 = λ o. c.newest_mark-count.result ≤ length o.ids in
    let at : newest (prefixes (numbers ids) (reverse c.self.inside.marks.items)) ≡ take c.newest_mark-count.result (numbers ids) = subst P (sym c.self.view_is) c.newest_mark-count.ensures.value in
    let within : c.newest_mark-count.result ≤ length (numbers ids) = subst Q (sym c.self.view_is) c.newest_mark-count.ensures.within in
    let R : List Xid → Type 0 = λ xs. AreOwnIds xs c.self.inside.marks.items in
    subst R (sym c.truncate.ensures.items) (record { normal = normal-take _ ids c.self.invariant.normal; marked = marks-cut ids _ _ c.self.invariant.marked at within; few = c.self.invariant.few })

pub returns-clause-ids : goal.returns-clause-ids
returns-clause-ids c =
    let ids = c.self.inside.ids.items in
    let P : Own → Type 0 = λ o. take c.newest_mark-count.result o.ids ≡ newest o.saved in
    ap numbers c.truncate.ensures.items ∙ sym (take-map (λ (x : Xid). x.0) c.newest_mark-count.result ids)
    ∙ ap (λ (o : Own). take c.newest_mark-count.result o.ids) c.self.view_is ∙ sym c.newest_mark-count.ensures.value

pub returns-clause-saved : goal.returns-clause-saved
returns-clause-saved c =
    let ids = c.self.inside.ids.items in
    let P : Own → Type 0 = λ o. newest o.saved ≡ take c.newest_mark-count.result o.ids in
    let Q : Own → Type 0 = λ o. c.newest_mark-count.result ≤ length o.ids in
    let at : newest (prefixes (numbers ids) (reverse c.self.inside.marks.items)) ≡ take c.newest_mark-count.result (numbers ids) = subst P (sym c.self.view_is) c.newest_mark-count.ensures.value in
    let within : c.newest_mark-count.result ≤ length (numbers ids) = subst Q (sym c.self.view_is) c.newest_mark-count.ensures.within in
    ap (λ xs. prefixes (numbers xs) (reverse c.self.inside.marks.items)) c.truncate.ensures.items
    ∙ prefixes-cut ids _ _ c.self.invariant.marked at within
    ∙ ap (λ (o : Own). o.saved) c.self.view_is
