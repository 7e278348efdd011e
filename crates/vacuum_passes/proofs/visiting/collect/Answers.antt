use Rattle.std.proofs.Common.{◌≤◌, length, arith}
use Rattle.vacuum_passes.proofs.Collecting.{collecting-none, collecting-next, all-before, over-store, over-left, all-store, all-left}
use Rattle.vacuum_passes.proofs.visiting.collect.Goals as goal

pub loop-slot-init : goal.loop-slot-init
loop-slot-init c = collecting-none c.args.store.now c.args.dead.now c.args.number c.args.limit c.requires.few

pub returns-then-len-limit : goal.returns-then-len-limit
returns-then-len-limit c =
    let l = c.loop-slot in
    let full : c.args.limit ≤ length l.store = omega (arith, c.if-len-limit.true, c.len.ensures.value) in
    record {
      store = over-store c.args.store.now l.store c.args.dead.now c.args.number c.args.limit l.slot-index l.invariant c.loop-slot-test.true full;
      left = over-left c.args.store.now l.store c.args.dead.now c.args.number c.args.limit l.slot-index l.invariant c.loop-slot-test.true full;
    }

pub loop-slot-preserved : goal.loop-slot-preserved
loop-slot-preserved c =
    let l = c.loop-slot in
    collecting-next c.args.store.now l.store c.args.dead.now c.args.number c.args.limit l.slot-index l.invariant c.insert.new.self c.loop-slot-test.true
    (omega (arith, c.if-len-limit.false, c.len.ensures.value))
    (c.insert.ensures.last (all-before c.args.store.now l.store c.args.dead.now c.args.number c.args.limit l.slot-index l.invariant c.requires.ascending c.loop-slot-test.true c.requires.below))

pub returns : goal.returns
returns c =
    let l = c.loop-slot in
    record {
      store = all-store c.args.store.now l.store c.args.dead.now c.args.number c.args.limit l.slot-index l.invariant c.loop-slot-test.false;
      left = all-left c.args.store.now l.store c.args.dead.now c.args.number c.args.limit l.slot-index l.invariant c.loop-slot-test.false;
    }
