use Rattle.c_handles.proofs.Numbers.{numbers-differ}
use Rattle.c_handles.proofs.status.numbers_differ.Goals as goal

pub returns : goal.returns
returns c = numbers-differ
