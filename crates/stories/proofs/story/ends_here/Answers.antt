use Rattle.std.proofs.Common.{arith}
use Rattle.stories.proofs.DrawOutcomeLemmas.{caused-by}
use Rattle.stories.proofs.ToldLemmas.{ended-here, more-here, refused-here}
use Rattle.stories.proofs.story.ends_here.Goals as goal

pub returns-in-Err-clause-ends : goal.returns-in-Err-clause-ends
returns-in-Err-clause-ends g c = refused-here _ c.args.pending.now c.in-Err.fault _ c.in-Err.ensures.fault

pub returns-in-Err-clause-caused : goal.returns-in-Err-clause-caused
returns-in-Err-clause-caused g c = caused-by _ _ c.in-Err.ensures.fault

pub returns-in-Line-clause-ends : goal.returns-in-Line-clause-ends
returns-in-Line-clause-ends g c =
    let found = rw c.in-Line.is at c.in-Ok.ensures.line in
    let within = found.1 in
    more-here _ _ _ _ c.in-Ok.ensures.takes (omega (arith, within))

pub returns-in-Bad-clause-ends : goal.returns-in-Bad-clause-ends
returns-in-Bad-clause-ends g c =
    let none = rw c.in-Bad.is at c.in-Ok.ensures.line in
    more-here _ _ _ _ c.in-Ok.ensures.takes none.0

pub returns-in-End-clause-ends : goal.returns-in-End-clause-ends
returns-in-End-clause-ends g c =
    let end = rw c.in-End.is at c.in-Ok.ensures.line in
    ended-here _ _ _ _ c.in-Ok.ensures.takes end
