use Rattle.std.proofs.Common.{sym, ◌∙◌, arith}
use Rattle.table_indexes.proofs.Columns.{index-in_use}
use Rattle.table_indexes.proofs.indexes.Indexes.next_after.Goals as goal

pub returns-then-is_some : goal.returns-then-is_some
returns-then-is_some c = record {
  onward = omega (arith, c.saturating_add-next.ensures, c.loop-next.auto.next, c.loop-next-test.true);
  in_use = index-in_use c.args.self.now.indexes c.loop-next.next c.get.result c.get.ensures (sym c.is_some.ensures ∙ c.if-is_some.true);
  none_between = c.loop-next.invariant;
}

pub returns : goal.returns
returns c = λ n onward used.
    let below = c.fact_few.ensures.few n used in
    c.loop-next.invariant n onward (omega (arith, below, c.loop-next-test.false)) used
