use Rattle.std.proofs.Common.{◌≡◌, ◌∙◌, Some, List, length, set, vec_len, sym, ap, subst, arith, slice_get}
use Rattle.commit_status.specs.Window.{IdEntry}
use Rattle.commit_status.specs.Entries.{EntriesView, known_from, known_with, parent_for}
use Rattle.commit_status.proofs.EntryLemmas.{count-known, known-at, entries-set, from-first}
use Rattle.commit_status.proofs.entries.IdEntries.finish.Goals as goal

pub index_mut-requires : goal.index_mut-requires
index_mut-requires c =
    let count = count-known c.args.self.now c.self.inside.statuses.items c.self.inside.children.items _ (vec_len c.self.inside.statuses) c.self.view_is c.self.inside.statuses.ok.0 in
    let within = c.requires in
    omega arith

pub returns-clause-items : goal.returns-clause-items
returns-clause-items c = λ old at.
    let ss = c.self.inside.statuses.items in
    let cs = c.self.inside.children.items in
    let known = known-at c.args.self.now ss cs _ (vec_len c.self.inside.statuses) c.args.place c.index_mut.result.now
    c.self.view_is c.self.inside.statuses.ok.0 c.requires c.index_mut.ensures.value in
    let same : old ≡ known_with c.index_mut.result.now (parent_for cs c.args.place) = (let e = sym at ∙ known in cc) in
    let items : known_from 0 ss cs ≡ c.args.self.now.items = ap (λ (v : EntriesView). v.items) c.self.view_is in
    entries-set 0 c.args.place ss cs c.args.status
    ∙ ap (λ n. set (known_from 0 ss cs) c.args.place (known_with c.args.status (parent_for cs n))) (from-first c.args.place)
    ∙ ap (λ (e : IdEntry). set (known_from 0 ss cs) c.args.place (known_with c.args.status e.parent)) (sym same)
    ∙ ap (λ (es : List IdEntry). set es c.args.place (known_with c.args.status old.parent)) items
