use Rattle.std.proofs.Common.{◌≡◌, length, sym, subst, ◌∙◌, arith}
use Rattle.table_scans.specs.Scans.{sight_of}
use Rattle.table_scans.specs.Puts.{PutsOfIndex}
use Rattle.table_scans.proofs.PutLemmas.{none-put_met, one-put, all-put, full-put}
use Rattle.table_scans.proofs.putting.put_rows.Goals as goal

pub loop-count-preserved : goal.loop-count-preserved
loop-count-preserved c =
    one-put (sight_of c.args.heap.now c.args.reader.now) c.args.range c.loop-count.left c.loop-count.count c.args.places.now c.loop-count.places c.loop-count.invariant
    c.in-Some.position c.in-Some.row _ c.put_into.new.place c.in-Some.ensures c.loop-count-test.true c.put_into.ensures

pub returns-in-None : goal.returns-in-None
returns-in-None c =
    all-put (sight_of c.args.heap.now c.args.reader.now) c.args.range c.loop-count.left c.loop-count.count c.args.places.now c.loop-count.places c.loop-count.invariant (omega (arith, c.loop-count-test.true)) c.in-None.ensures

pub loop-count-init : goal.loop-count-init
loop-count-init c = none-put_met (sight_of c.args.heap.now c.args.reader.now) c.args.range c.args.places.now

pub returns : goal.returns
returns c =
    let t = sight_of c.args.heap.now c.args.reader.now in
    let same = c.loop-count.auto.places in
    let within = c.loop-count.auto.count-end in
    let full : c.loop-count.count ≡ length c.args.places.now = omega (arith, c.loop-count-test.false) in
    subst (λ n. PutsOfIndex t c.args.range c.args.places.now n c.loop-count.left c.loop-count.places) (full ∙ sym same)
    (full-put t c.args.range c.loop-count.left c.loop-count.count c.args.places.now c.loop-count.places c.loop-count.invariant full)
