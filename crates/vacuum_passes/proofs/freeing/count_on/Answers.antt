use Rattle.std.proofs.Common.{arith}
use Rattle.vacuum_passes.proofs.FreedPlaces.{on-none, on-more, cut-here, cut-all}
use Rattle.vacuum_passes.proofs.freeing.count_on.Goals as goal

pub loop-number-init : goal.loop-number-init
loop-number-init c = on-none c.args.places.now c.args.page

pub loop-number-preserved : goal.loop-number-preserved
loop-number-preserved c =
    on-more c.args.places.now c.args.page c.loop-number.number (record { page = 0; slot = 0 }) c.loop-number-test.true c.if-place-page.false c.loop-number.invariant

pub returns-then-place-page-clause-here : goal.returns-then-place-page-clause-here
returns-then-place-page-clause-here c =
    (cut-here c.args.places.now c.args.page c.loop-number.number (record { page = 0; slot = 0 }) c.requires.ascending c.requires.lowest c.loop-number-test.true c.if-place-page.true
    c.loop-number.invariant).here

pub returns-then-place-page-clause-others : goal.returns-then-place-page-clause-others
returns-then-place-page-clause-others c =
    (cut-here c.args.places.now c.args.page c.loop-number.number (record { page = 0; slot = 0 }) c.requires.ascending c.requires.lowest c.loop-number-test.true c.if-place-page.true
    c.loop-number.invariant).others

pub returns-clause-here : goal.returns-clause-here
returns-clause-here c = (cut-all c.args.places.now c.args.page c.loop-number.number (omega arith) c.loop-number.invariant).here

pub returns-clause-others : goal.returns-clause-others
returns-clause-others c = (cut-all c.args.places.now c.args.page c.loop-number.number (omega arith) c.loop-number.invariant).others
