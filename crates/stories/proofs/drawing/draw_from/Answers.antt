use Rattle.std.proofs.Common.{◌++◌}
use Rattle.stories.proofs.DrawOutcomeLemmas.{lines-undone, lines-done, all-known}
use Rattle.stories.proofs.drawing.draw_from.Goals as goal

pub returns-clause-drawn : goal.returns-clause-drawn
returns-clause-drawn g c =
    all-known _ _ _ (λ input run. lines-done c.args.engine.now c.do_lines.new.engine c.args.most c.args.pages.now (c.args.pending.now ++ input) c.write_picture.result _ _ _ run c.in-Ok.ensures.quiet
    c.write_picture.ensures.written) c.in-Ok.ensures.runs

pub returns-in-Err-clause-drawn : goal.returns-in-Err-clause-drawn
returns-in-Err-clause-drawn g c =
    all-known _ _ _ (λ input run. lines-undone c.args.engine.now c.do_lines.new.engine c.args.most c.args.pages.now (c.args.pending.now ++ input) c.in-Err.fault _ _ run c.in-Err.ensures.quiet)
    c.in-Err.ensures.runs
