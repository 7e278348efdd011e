use Rattle.std.proofs.Common.{arith}
use Rattle.shapes.proofs.PageLemmas.{too-many, all-shown}
use Rattle.shapes.proofs.text.draw_all.Goals as goal

pub returns-then-pages-gt-MOST_PAGES-clause-fault : goal.returns-then-pages-gt-MOST_PAGES-clause-fault
returns-then-pages-gt-MOST_PAGES-clause-fault c = too-many c.args.engine.now.engine.core (omega (arith, c.pages.ensures, c.if-pages-gt-MOST_PAGES.true))

pub returns-in-Err-clause-fault : goal.returns-in-Err-clause-fault
returns-in-Err-clause-fault c = all-shown c.args.engine.now.engine.core (omega (arith, c.pages.ensures, c.if-pages-gt-MOST_PAGES.false))
