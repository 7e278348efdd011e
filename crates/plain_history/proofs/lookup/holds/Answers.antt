use Rattle.plain_history.proofs.Sessions.{holds_says}
use Rattle.plain_history.proofs.lookup.holds.Goals as goal

pub returns-in-Some : goal.returns-in-Some
returns-in-Some c = holds_says c.args.session.now c.in-Some.session c.args.key c.own_write.result c.is_some.result c.in-Some.is c.own_write.ensures.value c.is_some.ensures
