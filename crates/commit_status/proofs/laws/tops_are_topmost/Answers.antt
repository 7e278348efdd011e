use Rattle.commit_status.proofs.WindowLaws.{tops-topmost}
use Rattle.commit_status.proofs.laws.tops_are_topmost.Goals as goal

pub returns : goal.returns
returns c = tops-topmost
