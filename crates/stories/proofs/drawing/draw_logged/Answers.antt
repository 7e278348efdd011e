use Rattle.stories.proofs.DrawOutcomeLemmas.{no-drawing, drawn-from_first, caused-first}
use Rattle.stories.proofs.drawing.draw_logged.Goals as goal

pub returns-clause-outcome : goal.returns-clause-outcome
returns-clause-outcome g c =
    let b = c.in-Ok-first_line.ensures.begins in
    drawn-from_first _ _ b.0 _ _ _ _ _ _ _ _ b.1 b.2 b.3 b.4 c.in-Ok-first_line.ensures.quiet c.draw_from.ensures.drawn

pub returns-in-Err-first_line-clause-outcome : goal.returns-in-Err-first_line-clause-outcome
returns-in-Err-first_line-clause-outcome g c = no-drawing c.args.most c.args.pages.now _ _ _ _ c.in-Err-first_line.ensures.fails c.in-Err-first_line.ensures.quiet

pub returns-in-Err-first_line-clause-caused : goal.returns-in-Err-first_line-clause-caused
returns-in-Err-first_line-clause-caused g c = caused-first _ _ c.in-Err-first_line.ensures.caused
