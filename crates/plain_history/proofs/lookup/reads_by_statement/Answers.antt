use Rattle.std.proofs.Common.{ap}
use Rattle.std.specs.Option.{option_map}
use Rattle.plain_history.specs.Plain.{open_of}
use Rattle.plain_history.proofs.Sessions.{by_statement_says, nobody_says}
use Rattle.plain_history.proofs.lookup.reads_by_statement.Goals as goal

pub returns-in-Some : goal.returns-in-Some
returns-in-Some c = by_statement_says (option_map open_of c.args.session.now) (open_of c.in-Some.session) c.is_by_statement.result (ap (option_map open_of) c.in-Some.is) c.is_by_statement.ensures

pub returns-in-None : goal.returns-in-None
returns-in-None c = nobody_says (option_map open_of c.args.session.now) (ap (option_map open_of) c.in-None.is)
