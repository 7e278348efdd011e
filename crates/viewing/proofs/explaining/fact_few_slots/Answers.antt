use Rattle.std.proofs.Common.{sym}
use Rattle.viewing.proofs.ExplainingLemmas.{few-nowhere}
use Rattle.viewing.proofs.explaining.fact_few_slots.Goals as goal

pub returns-in-None : goal.returns-in-None
returns-in-None c = few-nowhere c.args.engine.now.engine.core c.args.page (sym c.in-None.ensures)
