use Rattle.std.proofs.Common.{◌≡◌, length, vec_len, sym, ap, arith}
use Rattle.commit_status.specs.Window.{status_in}
use Rattle.commit_status.proofs.EntryLemmas.{count-known, known-at}
use Rattle.commit_status.proofs.entries.IdEntries.status.Goals as goal

pub index-requires : goal.index-requires
index-requires c =
    let count = count-known c.args.self.now c.self.inside.statuses.items c.self.inside.children.items _ (vec_len c.self.inside.statuses) c.self.view_is c.self.inside.statuses.ok.0 in
    let within = c.requires in
    omega arith

pub returns : goal.returns
returns c =
    sym (ap status_in (known-at c.args.self.now c.self.inside.statuses.items c.self.inside.children.items _ (vec_len c.self.inside.statuses) c.args.place c.index.result.now
    c.self.view_is c.self.inside.statuses.ok.0 c.requires c.index.ensures))
