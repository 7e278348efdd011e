use Rattle.std.proofs.Common.{◌+◌, ◌≤◌, length, arith}
use Rattle.entry_columns.proofs.GapLemmas.{outside_more}
use Rattle.entry_columns.proofs.columns.past_eights.Goals as goal

pub loop-place-preserved : goal.loop-place-preserved
loop-place-preserved c =
    let end : c.loop-place.place + 8 ≤ length c.args.places.now = omega (arith, c.loop-place.invariant.end, c.loop-place-test.true) in
    record {
      from = omega (arith, c.loop-place.invariant.from);
      end = end;
      outside = outside_more c.args.places.now c.args.from c.loop-place.place 8 c.args.span.least c.args.span.more c.least_ahead.result end (omega (arith, c.if-least_ahead-span.false))
          c.loop-place.invariant.outside c.least_ahead.ensures.numbers c.least_ahead.ensures.ahead;
    }
