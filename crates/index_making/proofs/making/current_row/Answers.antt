use Rattle.std.proofs.Common.{None}
use Rattle.index_making.proofs.CurrentLemmas.{along-current, unseen-lacks}
use Rattle.index_making.proofs.making.current_row.Goals as goal

pub returns-in-None : goal.returns-in-None
returns-in-None c =
    let w = c.args.reader.now.statuses.now in
    unseen-lacks w c.args.page.now.slots c.args.root (along-current w c.args.reader.now c.args.page.now.slots c.args.root None c.requires c.in-None.ensures)
