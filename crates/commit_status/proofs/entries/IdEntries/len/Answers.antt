use Rattle.std.proofs.Common.{◌≡◌, length, vec_len, sym, ◌∙◌}
use Rattle.commit_status.proofs.EntryLemmas.{count-known}
use Rattle.commit_status.proofs.entries.IdEntries.len.Goals as goal

pub returns : goal.returns
returns c =
    c.len.ensures ∙ sym (count-known c.args.self.now c.self.inside.statuses.items c.self.inside.children.items _ (vec_len c.self.inside.statuses) c.self.view_is c.self.inside.statuses.ok.0)
