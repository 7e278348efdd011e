use Rattle.std.proofs.Common.{◌≡◌, length, sym, subst, ◌∙◌, arith}
use Rattle.visibility.specs.Reading.{IsSeenBy}
use Rattle.index_lookup.specs.declared.index_scan.IndexRange.{IndexRange}
use Rattle.index_lookup.specs.Keys.{IsNextKey, NoKeyLeft}
use Rattle.table_indexes.specs.Indexes.{entries_in}
use Rattle.table_scans.specs.Scans.{sight_of}
use Rattle.table_scans.specs.Keys.{PutsKeys}
use Rattle.table_scans.proofs.KeyLemmas.{no-key_put, one-key_put, all-keys_put, full-keys_put}
use Rattle.table_scans.proofs.keys.put_keys.Goals as goal

pub loop-count-init : goal.loop-count-init
loop-count-init c = no-key_put (sight_of c.args.heap.now c.args.reader.now) c.args.range c.args.places.now

pub loop-count-preserved : goal.loop-count-preserved
loop-count-preserved c =
    let next = subst (λ (sp : IndexRange). IsNextKey c.args.reader.now.statuses.now (IsSeenBy c.args.reader.now) c.args.heap.now.pages (entries_in c.args.heap.now.indexes sp.index) sp c.in-Some.position) c.span.ensures c.in-Some.ensures in
    one-key_put (sight_of c.args.heap.now c.args.reader.now) c.args.range c.loop-count.left c.loop-count.count c.args.places.now c.loop-count.places c.loop-count.invariant c.in-Some.position _ next c.loop-count-test.true

pub returns-in-None : goal.returns-in-None
returns-in-None c =
    let none = subst (λ (sp : IndexRange). NoKeyLeft c.args.reader.now.statuses.now (IsSeenBy c.args.reader.now) c.args.heap.now.pages (entries_in c.args.heap.now.indexes sp.index) sp) c.span.ensures c.in-None.ensures in
    all-keys_put (sight_of c.args.heap.now c.args.reader.now) c.args.range c.loop-count.left c.loop-count.count c.args.places.now c.loop-count.places c.loop-count.invariant (omega (arith, c.loop-count-test.true)) none

pub returns : goal.returns
returns c =
    let t = sight_of c.args.heap.now c.args.reader.now in
    let same = c.loop-count.auto.places in
    let within = c.loop-count.auto.count-end in
    let full : c.loop-count.count ≡ length c.args.places.now = omega (arith, c.loop-count-test.false) in
    subst (λ n. PutsKeys t c.args.range c.args.places.now n c.loop-count.left c.loop-count.places) (full ∙ sym same)
    (full-keys_put t c.args.range c.loop-count.left c.loop-count.count c.args.places.now c.loop-count.places c.loop-count.invariant full)
