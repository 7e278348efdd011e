use Rattle.std.proofs.Common.{sym, ap, ◌∙◌, subst}
use Rattle.tuple_header.specs.Faults.{header_fault}
use Rattle.visibility.specs.Hints.{AreTrue}
use Rattle.visibility.proofs.HintLemmas.{hinted-true, hinted-faultless}
use Rattle.visibility.proofs.hints.set_hints.Goals as goal

pub returns-clause-true_hints : goal.returns-clause-true_hints
returns-clause-true_hints c = subst (AreTrue c.args.statuses.now) (sym c.header_with_hints-with_hints.ensures) (hinted-true c.args.statuses.now c.args.header.now)

pub returns-clause-faultless : goal.returns-clause-faultless
returns-clause-faultless c = ap header_fault c.header_with_hints-with_hints.ensures ∙ hinted-faultless c.args.statuses.now c.args.header.now c.requires
