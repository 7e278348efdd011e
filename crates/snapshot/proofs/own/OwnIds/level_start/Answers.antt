use Rattle.std.proofs.Common.{rules, ◌≡◌, ◌∙◌, length, take, reverse, slice_get, sym, ap, subst, arith}
use Rattle.std.proofs.lemmas.List.{take_all}
use Rattle.commit_status.specs.Changes.{numbers}
use Rattle.snapshot.specs.Own.{Own, current_xid}
use Rattle.snapshot.proofs.LevelMarks.{start_by, level-kept}
use Rattle.snapshot.proofs.own.OwnIds.level_start.Goals as goal

pub returns : goal.returns
returns c =
    let ids = c.self.inside.ids.items in
    let marks = c.self.inside.marks.items in
    let items = c.as_slice-mark-items.result.now in
    let all : take c.loop-mark.mark-index items ≡ marks = take_all c.loop-mark.mark-index items (omega arith) ∙ c.as_slice-mark-items.ensures in
    let long : c.len-count.result ≡ length ids = search rules in
    let start : c.loop-mark.start ≡ start_by (length ids) (reverse marks) =
    c.loop-mark.invariant ∙ ap (λ l. start_by c.len-count.result (reverse l)) all ∙ ap (λ n. start_by n (reverse marks)) long in
    let P : Own → Type 0 = λ o. current_xid o.ids o.saved ≡ slice_get o.ids c.loop-mark.start in
    subst P c.self.view_is (level-kept ids marks c.self.invariant.marked ∙ ap (slice_get (numbers ids)) (sym start))
