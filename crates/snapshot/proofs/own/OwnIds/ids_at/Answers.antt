use Rattle.std.proofs.Common.{rules, ◌≡◌, ◌∙◌, ◌-◌, ◌≤◌, ◌<◌, ℕ, length, take, reverse, get_or, slice_get, None, sym, ap, subst, arith}
use Rattle.std.proofs.lemmas.List.{get_or-reverse, length-reverse, length-map}
use Rattle.std.proofs.lemmas.Option.{slice_get_past}
use Rattle.commit_status.specs.Changes.{numbers}
use Rattle.snapshot.specs.Own.{Own, prefixes}
use Rattle.snapshot.proofs.Marks.{mark-within}
use Rattle.snapshot.proofs.LevelMarks.{marks-numbers}
use Rattle.snapshot.proofs.own.OwnIds.ids_at.Goals as goal

pub returns-then-savepoint-len-clause-within : goal.returns-then-savepoint-len-clause-within
returns-then-savepoint-len-clause-within c =
    let ids = c.self.inside.ids.items in
    let marks = c.self.inside.marks.items in
    let long = length-reverse marks in
    let lt = c.if-savepoint-len.true in
    let size : c.len.result ≡ length marks = search rules in
    let same : c.len-then-savepoint-len.result ≡ length marks = search rules in
    let most = mark-within (reverse marks) (length (numbers ids)) (marks-numbers ids (reverse marks) c.self.invariant.marked) c.args.savepoint 0 (omega arith) in
    let is : get_or (reverse marks) c.args.savepoint 0 ≡ get_or marks (length marks - 1 - c.args.savepoint) 0 = get_or-reverse marks c.args.savepoint 0 (omega arith) in
    let there : get_or c.deref.result.now (c.len-then-savepoint-len.result - 1 - c.args.savepoint) 0 ≡ get_or marks (length marks - 1 - c.args.savepoint) 0 =
    ap (λ xs. get_or xs (c.len-then-savepoint-len.result - 1 - c.args.savepoint) 0) c.deref.ensures ∙ ap (λ n. get_or marks (n - 1 - c.args.savepoint) 0) same in
    let P : Own → Type 0 = λ o. get_or c.deref.result.now (c.len-then-savepoint-len.result - 1 - c.args.savepoint) 0 ≤ length o.ids in
    let here : get_or c.deref.result.now (c.len-then-savepoint-len.result - 1 - c.args.savepoint) 0 ≤ length (numbers ids) = omega (arith, most, is, there) in
    subst P c.self.view_is here

pub returns-else-savepoint-len-clause-value : goal.returns-else-savepoint-len-clause-value
returns-else-savepoint-len-clause-value c =
    let ids = c.self.inside.ids.items in
    let marks = c.self.inside.marks.items in
    let long = length-reverse marks in
    let size : c.len.result ≡ length marks = search rules in
    let count = length-map (reverse marks) (λ mark. take mark (numbers ids)) in
    let P : Own → Type 0 = λ o. None ≡ slice_get o.saved c.args.savepoint in
    subst P c.self.view_is (sym (slice_get_past (prefixes (numbers ids) (reverse marks)) c.args.savepoint (omega (arith, count, long, size, c.if-savepoint-len.false))))
