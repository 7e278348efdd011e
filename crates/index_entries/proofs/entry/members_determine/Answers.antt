use Rattle.index_entries.proofs.OrderLemmas.{determined}
use Rattle.index_entries.proofs.entry.members_determine.Goals as goal

pub returns : goal.returns
returns c = determined
