use Rattle.shapes.proofs.PictureLemmas.{picture-added}
use Rattle.shapes.proofs.text.draw_pages.Goals as goal

pub returns-in-Ok-tell_picture-clause-drawn : goal.returns-in-Ok-tell_picture-clause-drawn
returns-in-Ok-tell_picture-clause-drawn c =
    picture-added c.args.engine.now c.args.numbers.now c.in-Ok.shapes.items _ _ c.in-Ok.ensures.picture (rw c.as_slice.ensures.value at c.in-Ok-tell_picture.ensures)
