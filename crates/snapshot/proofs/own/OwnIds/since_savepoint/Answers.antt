use Rattle.std.proofs.Common.{◌≡◌, ◌∙◌, ◌-◌, ◌++◌, length, take, drop, sym, ap}
use Rattle.std.proofs.lemmas.List.{take-append-drop, take_rest, drop-map}
use Rattle.xid_circle.specs.declared.Xid.{Xid}
use Rattle.commit_status.specs.Changes.{numbers}
use Rattle.snapshot.specs.Own.{Own, newest}
use Rattle.snapshot.proofs.own.OwnIds.since_savepoint.Goals as goal

pub returns : goal.returns
returns c =
    let ids = c.self.inside.ids.items in
    let count = c.newest_mark-count.result in
    let rest : numbers (take (length c.deref.result.now - count) (drop count c.deref.result.now)) ≡ drop count c.args.self.now.ids =
    ap numbers (take_rest c.deref.result.now count) ∙ ap (λ xs. numbers (drop count xs)) c.deref.ensures
    ∙ sym (drop-map (λ (x : Xid). x.0) count ids) ∙ ap (λ (o : Own). drop count o.ids) c.self.view_is in
    sym (take-append-drop count c.args.self.now.ids)
    ∙ ap (λ xs. xs ++ drop count c.args.self.now.ids) (sym c.newest_mark-count.ensures.value)
    ∙ ap (λ xs. newest c.args.self.now.saved ++ xs) (sym rest)
