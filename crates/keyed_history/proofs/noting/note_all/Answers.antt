use Rattle.keyed_history.proofs.NotingLemmas.{noted_more}
use Rattle.keyed_history.proofs.noting.note_all.Goals as goal

pub loop-i-preserved : goal.loop-i-preserved
loop-i-preserved c =
    noted_more c.args.spots.now.places c.loop-i.spots.places c.note.new.self.places c.args.n c.args.writes.now c.loop-i.i c.key.result c.index-writes-i.result c.loop-i-test.true c.index-writes-i.is c.key.ensures
    c.loop-i.invariant c.in_ok-note.ensures.ok
