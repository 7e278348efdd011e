use Rattle.std.proofs.Common.{List, ◌++◌, subst}
use Rattle.index_entries.specs.declared.entry.Entry.{Entry}
use Rattle.index_making.specs.Filling.{HaveSame}
use Rattle.index_making.proofs.FillingLemmas.{batch-inserted}
use Rattle.index_making.proofs.filling.Filling.insert_full_batch.Goals as goal

pub returns : goal.returns
returns c =
    subst (λ (es : List Entry). HaveSame es (c.insert_batch.new.batch.items ++ c.insert_batch.new.index.entries)) c.self.view_is
    (batch-inserted c.self.inside.batch.items c.self.inside.index.entries c.insert_batch.new.index.entries c.insert_batch.new.batch.items
    c.in_ok-insert_batch.ensures.inserts c.in_ok-insert_batch.ensures.none)
