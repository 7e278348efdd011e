use Rattle.std.proofs.Common.{◌<◌, length, arith}
use Rattle.plain_history.proofs.MakingLemmas.{marks_more, all_marked}
use Rattle.plain_history.proofs.making.mark_all.Goals as goal

pub loop-s-preserved : goal.loop-s-preserved
loop-s-preserved c =
    let within : c.loop-s.s < length c.loop-s.too_new = omega (arith, c.loop-s-test.true, c.loop-s.auto.too_new, c.requires.places) in
    marks_more c.args.sessions.now c.args.index c.args.too_new.now c.loop-s.too_new c.loop-s.s c.index-sessions-s.result c.is_open_by_snapshot.result c.with_mark.result _
    within c.loop-s-test.true c.index-sessions-s.is c.is_open_by_snapshot.ensures c.with_mark.ensures c.loop-s.invariant

pub returns-clause-marks : goal.returns-clause-marks
returns-clause-marks c = all_marked c.args.sessions.now c.args.index c.args.too_new.now c.loop-s.too_new c.loop-s.s c.requires.places c.loop-s-test.false c.loop-s.invariant
