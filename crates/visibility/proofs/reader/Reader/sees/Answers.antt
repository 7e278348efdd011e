use Rattle.std.proofs.Common.{refl}
use Rattle.visibility.specs.Reading.{IsReadBy}
use Rattle.visibility.proofs.Parts.{made-kept, not-made}
use Rattle.visibility.proofs.reader.Reader.sees.Goals as goal

pub returns-then-counts_making : goal.returns-then-counts_making
returns-then-counts_making c =
    made-kept c.counts_deletion.result (IsReadBy c.args.self.now) c.args.header.now (c.if-counts_making.ensures.0 refl) c.counts_deletion.ensures

pub returns-else-counts_making : goal.returns-else-counts_making
returns-else-counts_making c =
    not-made c.counts_making.result (IsReadBy c.args.self.now) c.args.header.now c.if-counts_making.false c.counts_making.ensures
