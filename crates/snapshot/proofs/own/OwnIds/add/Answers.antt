use Rattle.std.proofs.Common.{rules, ◌≡◌, ◌∙◌, ◌≤◌, ◌<◌, ℕ, ◌-◌, ◌++◌, ◌∷◌, [], List, length, reverse, replicate, take, sym, ap, subst}
use Rattle.std.specs.List.{refill}
use Rattle.xid_circle.specs.declared.Xid.{Xid}
use Rattle.commit_status.specs.Changes.{numbers}
use Rattle.snapshot.specs.Own.{Own, prefixes, unassigned_levels, saved_with, AreOwnIds}
use Rattle.snapshot.proofs.Marks.{normal-push}
use Rattle.snapshot.proofs.LevelMarks.{above-within, added, raised-whole}
use Rattle.snapshot.proofs.own.OwnIds.add.Goals as goal

pub raise-requires : goal.raise-requires
raise-requires c =
    let ids = c.self.inside.ids.items in
    let marks = c.self.inside.marks.items in
    let P : Own → Type 0 = λ o. c.unassigned_levels.result ≡ unassigned_levels o.ids o.saved in
    let within = above-within ids marks c.unassigned_levels.result c.self.invariant.marked (subst P (sym c.self.view_is) c.unassigned_levels.ensures) in
    subst (λ l. c.unassigned_levels.result - 1 ≤ length l) (sym c.as_mut_slice.ensures.value) within

pub invariant_of-self : goal.invariant_of-self
invariant_of-self c =
    let ids = c.self.inside.ids.items in
    let marks = c.self.inside.marks.items in
    let P : Own → Type 0 = λ o. c.unassigned_levels.result ≡ unassigned_levels o.ids o.saved in
    let lacking = subst P (sym c.self.view_is) c.unassigned_levels.ensures in
    let some : 0 < c.unassigned_levels.result = subst (λ n. 0 < n) (sym c.unassigned_levels.ensures) c.requires.lacking in
    let long : c.len.result ≡ length (ids ++ c.args.x ∷ []) = search rules in
    let raised : c.raise.new.marks ≡ take (length marks - (c.unassigned_levels.result - 1)) marks ++ replicate (c.unassigned_levels.result - 1) (length (ids ++ c.args.x ∷ [])) =
    c.raise.ensures ∙ ap (λ l. take (length l - (c.unassigned_levels.result - 1)) l ++ replicate (c.unassigned_levels.result - 1) c.len.result) c.as_mut_slice.ensures.value
    ∙ ap (λ n. take (length marks - (c.unassigned_levels.result - 1)) marks ++ replicate (c.unassigned_levels.result - 1) n) long in
    let it = added ids marks c.raise.new.marks c.args.x c.unassigned_levels.result c.self.invariant.marked lacking some raised in
    let whole = raised-whole marks c.raise.new.marks (c.unassigned_levels.result - 1) (length (ids ++ c.args.x ∷ [])) (above-within ids marks c.unassigned_levels.result c.self.invariant.marked lacking) raised in
    let Q : List Xid → List ℕ → Type 0 = λ xs ms. AreOwnIds xs ms in
    subst (λ xs. Q xs (refill (length marks) marks c.raise.new.marks)) (sym c.push_reserved.ensures.items)
    (subst (Q (ids ++ c.args.x ∷ [])) (sym whole)
    (record { normal = normal-push ids c.args.x c.self.invariant.normal c.requires.normal; marked = it.ordered; few = subst (λ n. n ≤ 32) (sym it.count) c.self.invariant.few }))

pub returns-clause-saved : goal.returns-clause-saved
returns-clause-saved c =
    let ids = c.self.inside.ids.items in
    let marks = c.self.inside.marks.items in
    let P : Own → Type 0 = λ o. c.unassigned_levels.result ≡ unassigned_levels o.ids o.saved in
    let lacking = subst P (sym c.self.view_is) c.unassigned_levels.ensures in
    let some : 0 < c.unassigned_levels.result = subst (λ n. 0 < n) (sym c.unassigned_levels.ensures) c.requires.lacking in
    let long : c.len.result ≡ length (ids ++ c.args.x ∷ []) = search rules in
    let raised : c.raise.new.marks ≡ take (length marks - (c.unassigned_levels.result - 1)) marks ++ replicate (c.unassigned_levels.result - 1) (length (ids ++ c.args.x ∷ [])) =
    c.raise.ensures ∙ ap (λ l. take (length l - (c.unassigned_levels.result - 1)) l ++ replicate (c.unassigned_levels.result - 1) c.len.result) c.as_mut_slice.ensures.value
    ∙ ap (λ n. take (length marks - (c.unassigned_levels.result - 1)) marks ++ replicate (c.unassigned_levels.result - 1) n) long in
    let it = added ids marks c.raise.new.marks c.args.x c.unassigned_levels.result c.self.invariant.marked lacking some raised in
    let whole = raised-whole marks c.raise.new.marks (c.unassigned_levels.result - 1) (length (ids ++ c.args.x ∷ [])) (above-within ids marks c.unassigned_levels.result c.self.invariant.marked lacking) raised in
    ap (λ ms. prefixes (numbers c.push_reserved.new.self.items) (reverse ms)) whole
    ∙ ap (λ xs. prefixes (numbers xs) (reverse c.raise.new.marks)) c.push_reserved.ensures.items
    ∙ it.saved
    ∙ ap (λ n. saved_with (n - 1) c.args.x.0 (prefixes (numbers ids) (reverse marks))) lacking
    ∙ ap (λ (o : Own). saved_with (unassigned_levels o.ids o.saved - 1) c.args.x.0 o.saved) c.self.view_is
