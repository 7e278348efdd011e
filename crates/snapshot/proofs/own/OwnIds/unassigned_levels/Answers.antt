use Rattle.std.proofs.Common.{rules, ◌≡◌, ◌∙◌, length, take, reverse, sym, ap, subst, arith}
use Rattle.std.proofs.lemmas.List.{take_all}
use Rattle.snapshot.specs.Own.{Own, unassigned_levels}
use Rattle.snapshot.proofs.LevelMarks.{lacks_by, unassigned_levels-kept}
use Rattle.snapshot.proofs.own.OwnIds.unassigned_levels.Goals as goal

pub returns : goal.returns
returns c =
    let ids = c.self.inside.ids.items in
    let marks = c.self.inside.marks.items in
    let items = c.as_slice-mark-items.result.now in
    let all : take c.loop-mark.mark-index items ≡ marks = take_all c.loop-mark.mark-index items (omega arith) ∙ c.as_slice-mark-items.ensures in
    let long : c.len-count.result ≡ length ids = search rules in
    let P : Own → Type 0 = λ o. c.loop-mark.levels ≡ unassigned_levels o.ids o.saved in
    subst P c.self.view_is
    (c.loop-mark.invariant.0 ∙ ap (λ l. lacks_by c.len-count.result (reverse l)) all
    ∙ ap (λ n. lacks_by n (reverse marks)) long
    ∙ sym (unassigned_levels-kept ids marks c.self.invariant.marked))
