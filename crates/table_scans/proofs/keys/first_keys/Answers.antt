use Rattle.std.proofs.Common.{◌+◌, List, ℕ, Some, sym, subst, arith}
use Rattle.visibility.specs.Reading.{IsSeenBy}
use Rattle.index_lookup.specs.declared.index_scan.IndexRange.{IndexRange}
use Rattle.index_lookup.specs.Keys.{IsNextKey, NoKeyLeft}
use Rattle.table_indexes.specs.Indexes.{entries_in}
use Rattle.table_scans.specs.Scans.{sight_of}
use Rattle.table_scans.proofs.Outcomes.{on-err}
use Rattle.table_scans.proofs.KeyLemmas.{HasMetKeys, no-key_met, one-key_met, meets-next_key, all-keys_met}
use Rattle.table_scans.proofs.keys.first_keys.Goals as goal

pub loop-init : goal.loop-init
loop-init c =
    let t = sight_of c.args.heap.now c.args.reader.now in
    subst (λ (keys : List ℕ). HasMetKeys t c.args.range c.args.range 0 keys) (sym c.new-keys.ensures.items) (no-key_met t c.args.range)

pub returns-in_err-push-in-Some-clause-refused : goal.returns-in_err-push-in-Some-clause-refused
returns-in_err-push-in-Some-clause-refused c =
    let next = subst (λ (sp : IndexRange). IsNextKey c.args.reader.now.statuses.now (IsSeenBy c.args.reader.now) c.args.heap.now.pages (entries_in c.args.heap.now.indexes sp.index) sp c.in-Some.position) c.span.ensures c.in-Some.ensures in
    on-err c.from_residual.result (meets-next_key (sight_of c.args.heap.now c.args.reader.now) c.args.range c.loop.left c.loop.counter c.loop.keys.items c.loop.invariant c.in-Some.position next)

pub returns-in-None-clause-taken : goal.returns-in-None-clause-taken
returns-in-None-clause-taken c =
    let none = subst (λ (sp : IndexRange). NoKeyLeft c.args.reader.now.statuses.now (IsSeenBy c.args.reader.now) c.args.heap.now.pages (entries_in c.args.heap.now.indexes sp.index) sp) c.span.ensures c.in-None.ensures in
    all-keys_met (sight_of c.args.heap.now c.args.reader.now) c.args.range c.loop.left c.loop.counter c.loop.keys.items c.loop.invariant c.args.count (omega (arith, c.loop-test.true)) none

pub loop-preserved : goal.loop-preserved
loop-preserved c =
    let next = subst (λ (sp : IndexRange). IsNextKey c.args.reader.now.statuses.now (IsSeenBy c.args.reader.now) c.args.heap.now.pages (entries_in c.args.heap.now.indexes sp.index) sp c.in-Some.position) c.span.ensures c.in-Some.ensures in
    subst (HasMetKeys (sight_of c.args.heap.now c.args.reader.now) c.args.range (record c.loop.left { last = Some c.in-Some.position }) (c.loop.counter + 1)) (sym c.in_ok-push-in-Some.ensures.items)
    (one-key_met (sight_of c.args.heap.now c.args.reader.now) c.args.range c.loop.left c.loop.counter c.loop.keys.items c.loop.invariant c.in-Some.position next)
