use Rattle.std.proofs.Common.{suc, arith}
use Rattle.index_making.proofs.ListLemmas.{all-listed}
use Rattle.index_making.proofs.making.list_pages.Goals as goal

pub returns-clause-lists : goal.returns-clause-lists
returns-clause-lists c =
    all-listed c.args.reader.now.statuses.now c.args.pages.now.pages (suc c.args.column) c.loop-number.number c.loop-number.filling
    (omega (arith, c.len-number-end.ensures.count, c.loop-number-test.false)) c.loop-number.invariant
