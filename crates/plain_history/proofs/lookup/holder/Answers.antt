use Rattle.plain_history.proofs.Sessions.{none_further, none_at_all, holder_found, holder_not}
use Rattle.plain_history.proofs.lookup.holder.Goals as goal
use Rattle.plain_history.proofs.lookup.holder.Goals.{else-o-s-via-then-o-s+else-holds, else-o-s-via-else-o-s}

pub returns-then-holds : goal.returns-then-holds
returns-then-holds c = (c.if-o-s.true, holder_found c.args.sessions.now c.args.key c.loop-o.o c.index-sessions-o.result c.loop-o-test.true c.index-sessions-o.is (c.holds.ensures.0 c.if-holds.true))

pub loop-o-preserved : goal.loop-o-preserved
loop-o-preserved c = none_further c.args.sessions.now c.args.s c.args.key c.loop-o.o c.loop-o.invariant (elim c.else-o-s.branch [
  | else-o-s-via-then-o-s+else-holds w ↦ (λ m ne at wrote.
      holder_not c.args.sessions.now c.args.key c.loop-o.o w.index-sessions-o.result w.holds.result c.loop-o-test.true w.index-sessions-o.is w.if-holds.false w.holds.ensures.1 m at wrote)
  | else-o-s-via-else-o-s w ↦ (λ m ne at wrote. ne w.if-o-s.false)
])

pub returns : goal.returns
returns c = none_at_all c.args.sessions.now c.args.s c.args.key c.loop-o.o c.loop-o-test.false c.loop-o.invariant
