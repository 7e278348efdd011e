use Rattle.judge.proofs.Reasoning.{excluded_after}
use Rattle.judge.proofs.laws.what_breaks_a_rule_is_not_allowed.Goals as goal

pub returns : goal.returns
returns c = excluded_after
