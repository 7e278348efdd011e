use Rattle.reasons.proofs.Existing.{reason-exists, verdict-exists}
use Rattle.reasons.proofs.laws.each_has_a_reason.Goals as goal

pub returns : goal.returns
returns c = λ w s own. (λ x. reason-exists w s own x, λ h. verdict-exists w s own h)
