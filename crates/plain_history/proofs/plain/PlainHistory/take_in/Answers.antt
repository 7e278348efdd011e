use Rattle.plain_history.specs.Plain.{world_of}
use Rattle.plain_history.proofs.Worlds.{commits_so}
use Rattle.plain_history.proofs.plain.PlainHistory.take_in.Goals as goal

pub returns-clause-ok : goal.returns-clause-ok
returns-clause-ok c =
    let would = c.in_ok-transaction.ensures in
    commits_so (world_of c.args.self.now) (world_of c.append.new.self) (world_of c.end.new.self) c.args.s c.in_ok-transaction.transaction would.0 would.1.there would.2 c.in_ok-append.ensures.ok c.end.ensures
