use Rattle.std.proofs.Common.{◌≡◌, ◌∙◌, ℕ, ◌-◌, ◌<◌, ◌≤◌, Some, List, length, length-drop, drop, take, ◌++◌, map, vec_len, sym, ap, subst, slice_get, arith}
use Rattle.std.proofs.lemmas.List.{length-map}
use Rattle.commit_status.specs.declared.status.Status.{Status}
use Rattle.commit_status.specs.declared.entries.Child.{Child}
use Rattle.commit_status.specs.Window.{IdEntry}
use Rattle.commit_status.specs.Entries.{EntriesView, AreChildren, known_from, placed_earlier}
use Rattle.commit_status.proofs.EntryLemmas.{count-known, forget-kept, forget-entries, written-back}
use Rattle.commit_status.proofs.entries.IdEntries.forget.Goals as goal

pub forget_first-requires : goal.forget_first-requires
forget_first-requires c =
    let count = count-known c.args.self.now c.self.inside.statuses.items c.self.inside.children.items _ (vec_len c.self.inside.statuses) c.self.view_is c.self.inside.statuses.ok.0 in
    let within = c.requires in
    omega arith

pub invariant_of-self : goal.invariant_of-self
invariant_of-self c =
    let cs = c.self.inside.children.items in
    let m = c.count_before-forgotten.result in
    let n = c.args.count in
    let left = c.forget_first-2.new.items in
    let behind = subst (λ (ds : List Child). (i : ℕ) (d : Child) → m ≤ i → slice_get ds i ≡ Some d → n ≤ d.place) c.as_slice.ensures.value c.count_before-forgotten.ensures.behind in
    let moved : c.move_up.new.children ≡ map (placed_earlier n) (drop m cs) = c.move_up.ensures ∙ ap (map (placed_earlier n)) (c.as_mut_slice.ensures.value ∙ c.forget_first-2.ensures.items) in
    let long : length c.move_up.new.children ≡ length left.items =
    ap length c.move_up.ensures ∙ length-map c.as_mut_slice.result.now (placed_earlier n) ∙ ap length c.as_mut_slice.ensures.value in
    let whole = written-back c.move_up.new.children left.items left.len left.ok.0 long in
    let count : vec_len c.self.inside.statuses - n ≡ vec_len c.forget_first.new.items =
    ap (λ k. k - n) c.self.inside.statuses.ok.0 ∙ sym (length-drop n c.self.inside.statuses.items) ∙ sym (ap length c.forget_first.ensures.items) ∙ sym c.forget_first.new.items.ok.0 in
    subst (λ ds. AreChildren ds (vec_len c.forget_first.new.items)) (sym (whole ∙ moved))
    (subst (AreChildren (map (placed_earlier n) (drop m cs))) count
    (forget-kept cs m n (vec_len c.self.inside.statuses) (record { in_order = c.self.invariant.in_order; within = c.self.invariant.within }) behind))

pub returns-clause-items : goal.returns-clause-items
returns-clause-items c =
    let ss = c.self.inside.statuses.items in
    let cs = c.self.inside.children.items in
    let m = c.count_before-forgotten.result in
    let n = c.args.count in
    let left = c.forget_first-2.new.items in
    let before = subst (λ (ds : List Child). (i : ℕ) (d : Child) → i < m → slice_get ds i ≡ Some d → d.place < n) c.as_slice.ensures.value c.count_before-forgotten.ensures.before in
    let behind = subst (λ (ds : List Child). (i : ℕ) (d : Child) → m ≤ i → slice_get ds i ≡ Some d → n ≤ d.place) c.as_slice.ensures.value c.count_before-forgotten.ensures.behind in
    let moved : c.move_up.new.children ≡ map (placed_earlier n) (drop m cs) = c.move_up.ensures ∙ ap (map (placed_earlier n)) (c.as_mut_slice.ensures.value ∙ c.forget_first-2.ensures.items) in
    let long : length c.move_up.new.children ≡ length left.items =
    ap length c.move_up.ensures ∙ length-map c.as_mut_slice.result.now (placed_earlier n) ∙ ap length c.as_mut_slice.ensures.value in
    let whole = written-back c.move_up.new.children left.items left.len left.ok.0 long in
    let items : known_from 0 ss cs ≡ c.args.self.now.items = ap (λ (v : EntriesView). v.items) c.self.view_is in
    ap (λ (xs : List Status). known_from 0 xs (take left.len (c.move_up.new.children ++ drop (length c.move_up.new.children) left.items))) c.forget_first.ensures.items
    ∙ ap (λ (ds : List Child). known_from 0 (drop n ss) ds) (whole ∙ moved)
    ∙ forget-entries ss cs m n before behind
    ∙ ap (drop n) items
