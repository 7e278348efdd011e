use Rattle.tuple_writes.proofs.Bits.{replaced-faultless}
use Rattle.tuple_writes.proofs.headers.replace_header.Goals as goal

pub returns-clause-faultless : goal.returns-clause-faultless
returns-clause-faultless c = rw c.marked_hot.ensures
    (replaced-faultless c.args.header.now c.args.x.0 c.args.place.page c.args.place.slot c.args.hot c.requires.faultless c.requires.normal c.requires.from c.requires.to)
