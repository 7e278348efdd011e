use Rattle.std.proofs.Common.{◌≡◌, ◌∙◌, ℕ, ◌<◌, ◌≤◌, None, Some, List, length, vec_len, sym, ap, subst, slice_get}
use Rattle.std.specs.Option.{option_map}
use Rattle.xid_circle.specs.declared.Xid.{Xid}
use Rattle.commit_status.specs.declared.entries.Child.{Child}
use Rattle.commit_status.proofs.EntryLemmas.{parent-known, child-at, none-at, read-there, nothing-there}
use Rattle.commit_status.proofs.entries.IdEntries.parent.Goals as goal

pub returns-in_err-child : goal.returns-in_err-child
returns-in_err-child c =
    let cs = c.self.inside.children.items in
    let at = c.count_before-at.result in
    let place = c.args.place in
    let before = subst (λ (ds : List Child). (i : ℕ) (d : Child) → i < at → slice_get ds i ≡ Some d → d.place < place) c.as_slice.ensures.value c.count_before-at.ensures.before in
    let behind = subst (λ (ds : List Child). (i : ℕ) (d : Child) → at ≤ i → slice_get ds i ≡ Some d → place ≤ d.place) c.as_slice.ensures.value c.count_before-at.ensures.behind in
    let nothing = nothing-there c.deref.result.now cs at c.deref.ensures.value c.in_err-child.ensures.lookup.0 in
    ap (option_map (λ (p : Xid). p.0)) c.from_residual.ensures
    ∙ sym (parent-known c.args.self.now c.self.inside.statuses.items cs _ (vec_len c.self.inside.statuses) place c.self.view_is c.self.inside.statuses.ok.0 c.requires
    ∙ none-at cs at place c.self.invariant.in_order before behind (λ d there. absurd (let e : None ≡ Some d = sym nothing ∙ there in cc)))

pub returns-then-child-place : goal.returns-then-child-place
returns-then-child-place c =
    let cs = c.self.inside.children.items in
    let at = c.count_before-at.result in
    let place = c.args.place in
    let before = subst (λ (ds : List Child). (i : ℕ) (d : Child) → i < at → slice_get ds i ≡ Some d → d.place < place) c.as_slice.ensures.value c.count_before-at.ensures.before in
    let there = read-there c.deref.result.now cs at c.in_ok-child.child.now c.deref.ensures.value c.in_ok-child.ensures.lookup.0 c.in_ok-child.ensures.lookup.1 in
    sym (parent-known c.args.self.now c.self.inside.statuses.items cs _ (vec_len c.self.inside.statuses) place c.self.view_is c.self.inside.statuses.ok.0 c.requires
    ∙ child-at cs at place c.in_ok-child.child.now before there c.if-child-place.true)

pub returns-else-child-place : goal.returns-else-child-place
returns-else-child-place c =
    let cs = c.self.inside.children.items in
    let at = c.count_before-at.result in
    let place = c.args.place in
    let before = subst (λ (ds : List Child). (i : ℕ) (d : Child) → i < at → slice_get ds i ≡ Some d → d.place < place) c.as_slice.ensures.value c.count_before-at.ensures.before in
    let behind = subst (λ (ds : List Child). (i : ℕ) (d : Child) → at ≤ i → slice_get ds i ≡ Some d → place ≤ d.place) c.as_slice.ensures.value c.count_before-at.ensures.behind in
    let there = read-there c.deref.result.now cs at c.in_ok-child.child.now c.deref.ensures.value c.in_ok-child.ensures.lookup.0 c.in_ok-child.ensures.lookup.1 in
    sym (parent-known c.args.self.now c.self.inside.statuses.items cs _ (vec_len c.self.inside.statuses) place c.self.view_is c.self.inside.statuses.ok.0 c.requires
    ∙ none-at cs at place c.self.invariant.in_order before behind
    (λ d is e. c.if-child-place.false ((let same : c.in_ok-child.child.now ≡ d = (let both = sym there ∙ is in cc) in ap (λ (x : Child). x.place) same) ∙ e)))
