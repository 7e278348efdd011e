use Rattle.std.proofs.Common.{arith}
use Rattle.std.proofs.lemmas.Option.{slice_get-get_or}
use Rattle.index_making.proofs.FillingLemmas.{each-fits, one-inserted, all-inserted}
use Rattle.index_making.proofs.filling.insert_each.Goals as goal

pub insert_one-requires-clause-fits : goal.insert_one-requires-clause-fits
insert_one-requires-clause-fits c = each-fits c.args.batch.now c.loop-i.i _ c.requires.fits (omega (arith, c.loop-i-test.true))

pub loop-i-preserved : goal.loop-i-preserved
loop-i-preserved c = record {
  inserted = one-inserted c.args.batch.now c.loop-i.i c.args.index.now.entries c.loop-i.index.entries c.insert_one.new.index.entries _ c.loop-i.invariant.inserted
      (slice_get-get_or c.args.batch.now c.loop-i.i _ (omega (arith, c.loop-i-test.true))) c.in_ok-insert_one.ensures.adds;
  kind = c.insert_one.ensures.kind;
}

pub returns-clause-inserts : goal.returns-clause-inserts
returns-clause-inserts c =
    all-inserted c.args.batch.now c.loop-i.i c.args.index.now.entries c.loop-i.index.entries (omega (arith, c.loop-i-test.false)) c.loop-i.invariant.inserted
