use Rattle.stories.proofs.PictureLemmas.{line-told}
use Rattle.stories.proofs.telling.tell_line.Goals as goal

pub returns-in-Ok-end-clause-done : goal.returns-in-Ok-end-clause-done
returns-in-Ok-end-clause-done c =
    let done = rw (c.in-Ok-true.field-0-test, c.clear.ensures.items) at c.in-Ok-true.ensures.done in
    line-told c.args.line.now c.args.engine.now c.do_view.new.engine c.end.new.engine c.args.items.now.items c.list_line.new.items.items c.args.told.now.items c.begin.new.told.items c.end.new.told.items _ c.in-Ok.ensures done
    (rw c.as_slice.ensures.value at c.in-Ok-list_line.ensures) c.in-Ok-end.ensures.ended c.in-Ok-end.ensures.same
