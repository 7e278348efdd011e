use Rattle.tuple_writes.proofs.Counted.{counted}
use Rattle.tuple_writes.proofs.laws.setting_xmax_is_counted.Goals as goal

pub returns : goal.returns
returns c = counted
