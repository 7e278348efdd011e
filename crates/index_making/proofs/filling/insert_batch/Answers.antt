use Rattle.std.proofs.Common.{List, false, sym, subst}
use Rattle.std.proofs.lemmas.List.Sorted.{All-permutation}
use Rattle.index_entries.specs.declared.entry.Entry.{Entry}
use Rattle.entry_columns.specs.Fits.{Fits}
use Rattle.index_making.specs.Filling.{AllFitColumn, HasBoth}
use Rattle.index_making.proofs.FillingLemmas.{unsorted}
use Rattle.index_making.proofs.filling.insert_batch.Goals as goal

pub insert_each-requires-clause-fits : goal.insert_each-requires-clause-fits
insert_each-requires-clause-fits c =
    subst AllFitColumn (sym c.deref.ensures.value)
    (All-permutation (Fits false false) c.args.batch.now.items c.sort_unstable_by_key.new.self.items c.sort_unstable_by_key.ensures.permutation c.requires.fits)

pub returns-in_err-insert_each-clause-fits : goal.returns-in_err-insert_each-clause-fits
returns-in_err-insert_each-clause-fits c =
    All-permutation (Fits false false) c.args.batch.now.items c.sort_unstable_by_key.new.self.items c.sort_unstable_by_key.ensures.permutation c.requires.fits

pub returns-clause-inserts : goal.returns-clause-inserts
returns-clause-inserts c =
    unsorted c.args.batch.now.items c.sort_unstable_by_key.new.self.items c.args.index.now.entries c.insert_each.new.index.entries c.sort_unstable_by_key.ensures.permutation
    (subst (λ (es : List Entry). HasBoth es c.args.index.now.entries c.insert_each.new.index.entries) c.deref.ensures.value c.in_ok-insert_each.ensures.inserts)
