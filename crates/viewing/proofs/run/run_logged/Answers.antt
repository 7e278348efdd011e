use Rattle.viewing.proofs.RunLemmas.{outcome_from, outcome_of_none}
use Rattle.viewing.proofs.run.run_logged.Goals as goal

pub returns-clause-outcome : goal.returns-clause-outcome
returns-clause-outcome g c =
    let b = c.in-Ok-first_line.ensures.begins in
    outcome_from _ _ _ _ _ _ b.0 _ _ _ _ b.4 b.2 b.3 c.in-Ok-first_line.ensures.quiet b.1 c.in-Ok-first_line.ensures.none c.run_lines.ensures.advances

pub returns-in-Err-first_line-clause-outcome : goal.returns-in-Err-first_line-clause-outcome
returns-in-Err-first_line-clause-outcome g c = outcome_of_none _ _ _ _ _ c.in-Err-first_line.ensures.fails c.in-Err-first_line.ensures.quiet
