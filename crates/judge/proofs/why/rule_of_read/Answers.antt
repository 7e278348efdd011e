use Rattle.plain_history.specs.Plain.{world_of}
use Rattle.judge.proofs.Reasoning.{not_of, read_by}
use Rattle.judge.proofs.why.rule_of_read.Goals as goal

pub returns-then-holds_key : goal.returns-then-holds_key
returns-then-holds_key c = c.holds_key.ensures.0 c.if-holds_key.true

pub returns-else-holds_key : goal.returns-else-holds_key
returns-else-holds_key c =
    read_by c.rule_of_view.result (world_of c.args.plain.now) c.args.s c.args.key (not_of c.holds_key.result c.if-holds_key.false c.holds_key.ensures) c.rule_of_view.ensures
