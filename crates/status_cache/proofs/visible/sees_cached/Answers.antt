use Rattle.std.proofs.Common.{refl}
use Rattle.visibility.specs.Reading.{IsReadBy}
use Rattle.visibility.proofs.Parts.{made-kept, not-made}
use Rattle.status_cache.proofs.visible.sees_cached.Goals as goal

pub returns-then-counts_making-clause-value : goal.returns-then-counts_making-clause-value
returns-then-counts_making-clause-value c =
    made-kept c.counts_deletion.result (IsReadBy c.args.reader.now) c.args.header.now (c.if-counts_making.ensures.value.0 refl) c.counts_deletion.ensures.value

pub returns-else-counts_making-clause-value : goal.returns-else-counts_making-clause-value
returns-else-counts_making-clause-value c =
    not-made c.counts_making.result (IsReadBy c.args.reader.now) c.args.header.now c.if-counts_making.false c.counts_making.ensures.value
