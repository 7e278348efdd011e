use Rattle.std.proofs.Common.{◌≡◌, ◌∙◌, ℕ, suc, ◌++◌, ◌∷◌, [], List, length, Option, vec_len, sym, ap, subst, arith}
use Rattle.std.specs.Option.{option_map}
use Rattle.xid_circle.specs.declared.Xid.{Xid}
use Rattle.commit_status.specs.declared.status.Status.{Status}
use Rattle.commit_status.specs.declared.entries.Child.{Child}
use Rattle.commit_status.specs.Window.{IdEntry}
use Rattle.commit_status.specs.Changes.{given_entry}
use Rattle.commit_status.specs.Entries.{EntriesView, AreChildren, AreWithin, known_from, with_child}
use Rattle.commit_status.proofs.EntryLemmas.{count-known, child-noted, noted-entries}
use Rattle.commit_status.proofs.entries.IdEntries.push.Goals as goal

pub overflow_cast-len : goal.overflow_cast-len
overflow_cast-len c =
    let count = count-known c.args.self.now c.self.inside.statuses.items c.self.inside.children.items _ (vec_len c.self.inside.statuses) c.self.view_is c.self.inside.statuses.ok.0 in
    let few = c.requires.few in
    let long = c.len.ensures in
    omega arith

pub invariant_of-self : goal.invariant_of-self
invariant_of-self c =
    let parent : Option ℕ = option_map (λ (p : Xid). p.0) c.args.parent in
    let were : AreChildren c.self.inside.children.items c.len.result =
    subst (AreChildren c.self.inside.children.items) (sym c.len.ensures) (record { in_order = c.self.invariant.in_order; within = c.self.invariant.within }) in
    let count : suc c.len.result ≡ vec_len c.push_reserved.new.self = (let a = c.push_reserved.ensures.len in let b = c.len.ensures in omega arith) in
    subst (λ cs. AreChildren cs (vec_len c.push_reserved.new.self)) (sym c.note_child.ensures.items)
    (subst (AreChildren (with_child c.self.inside.children.items c.len.result parent)) count (child-noted c.self.inside.children.items c.len.result parent were))

pub returns-clause-items : goal.returns-clause-items
returns-clause-items c =
    let parent : Option ℕ = option_map (λ (p : Xid). p.0) c.args.parent in
    let ss = c.self.inside.statuses.items in
    let cs = c.self.inside.children.items in
    let within : AreWithin cs c.len.result = subst (AreWithin cs) (sym c.len.ensures) c.self.invariant.within in
    let items : known_from 0 ss cs ≡ c.args.self.now.items = ap (λ (v : EntriesView). v.items) c.self.view_is in
    ap (λ (xs : List Status). known_from 0 xs c.note_child.new.children.items) c.push_reserved.ensures.items
    ∙ ap (λ (ds : List Child). known_from 0 (ss ++ _ ∷ []) ds) c.note_child.ensures.items
    ∙ noted-entries ss cs c.len.result parent within (c.len.ensures ∙ c.self.inside.statuses.ok.0)
    ∙ ap (λ (es : List IdEntry). es ++ given_entry parent ∷ []) items
