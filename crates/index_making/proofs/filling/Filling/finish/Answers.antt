use Rattle.index_making.proofs.FillingLemmas.{some-in}
use Rattle.index_making.specs.Filling.{HoldsEntry}
use Rattle.index_entries.proofs.SetLemmas.{on_err}
use Rattle.std.proofs.Common.{List, subst}
use Rattle.index_entries.specs.declared.entry.Entry.{Entry}
use Rattle.index_making.specs.Filling.{HaveSame}
use Rattle.index_making.proofs.FillingLemmas.{both-same}
use Rattle.index_making.proofs.filling.Filling.finish.Goals as goal

pub returns-clause-same : goal.returns-clause-same
returns-clause-same c =
    subst (λ (es : List Entry). HaveSame es c.insert_batch.new.index.entries) c.self.view_is
    (both-same c.self.inside.batch.items c.self.inside.index.entries c.insert_batch.new.index.entries c.in_ok-insert_batch.ensures.inserts)

pub returns-in_err-insert_batch-clause-refused : goal.returns-in_err-insert_batch-clause-refused
returns-in_err-insert_batch-clause-refused c =
    on_err c.from_residual.result (HoldsEntry c.args.self)
    (subst HoldsEntry c.self.view_is (some-in c.self.inside.batch.items c.self.inside.index.entries c.in_err-insert_batch.ensures.refused))
