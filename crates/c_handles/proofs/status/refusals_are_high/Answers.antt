use Rattle.c_handles.proofs.Numbers.{refusals-are-high}
use Rattle.c_handles.proofs.status.refusals_are_high.Goals as goal

pub returns : goal.returns
returns c = refusals-are-high
