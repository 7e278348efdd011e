use Rattle.std.proofs.Common.{refl}
use Rattle.std.specs.Option.{option_map}
use Rattle.script.specs.Engine.{engine_index, next_id}
use Rattle.script.specs.Script.{did, finished, showed_ids, showed_page, showed_entries, shown_of}
use Rattle.script.proofs.run.do_line.Goals as goal

pub returns-in_ok-tell_reply-in-Some-Do-clause-done : goal.returns-in_ok-tell_reply-in-Some-Do-clause-done
returns-in_ok-tell_reply-in-Some-Do-clause-done c =
    let says = rw (c.in-Some-Do.is, c.in-Some-Do.field-0-is) at c.in_ok-step.ensures in
    (did c.in-Some-Do.step c.step_into.new.reply, says.0, says.1, (c.step_into.ensures.follows, c.step_into.ensures.exact), c.in_ok-tell_reply-in-Some-Do.ensures)

pub returns-in_ok-tell_reply-in-Some-VacuumFinish-clause-done : goal.returns-in_ok-tell_reply-in-Some-VacuumFinish-clause-done
returns-in_ok-tell_reply-in-Some-VacuumFinish-clause-done c =
    let says = rw (c.in-Some-VacuumFinish.is, c.in-Some-VacuumFinish.field-0-is) at c.in_ok-step.ensures in
    let ends = c.finish_vacuum.ensures in
    (finished ends.0 c.finish_vacuum.new.reply, says.0, says.1, ends.1, c.in_ok-tell_reply-in-Some-VacuumFinish.ensures)

pub returns-in_ok-show_ids-in-Some-Ids-clause-done : goal.returns-in_ok-show_ids-in-Some-Ids-clause-done
returns-in_ok-show_ids-in-Some-Ids-clause-done c =
    let says = rw (c.in-Some-Ids.is, c.in-Some-Ids.field-0-is) at c.in_ok-step.ensures in
    (showed_ids (next_id c.args.engine.now.engine.core.heap.statuses) c.args.engine.now.engine.core.heap.statuses.first, says.0, says.1, (refl, refl, refl), c.in_ok-show_ids-in-Some-Ids.ensures)

pub returns-in_ok-show_page-in-Some-Page-clause-done : goal.returns-in_ok-show_page-in-Some-Page-clause-done
returns-in_ok-show_page-in-Some-Page-clause-done c =
    let says = rw (c.in-Some-Page.is, c.in-Some-Page.field-0-is) at c.in_ok-step.ensures in
    (showed_page c.in-Some-Page.number (shown_of c.args.engine.now c.in-Some-Page.number), says.0, says.1, (refl, refl), c.in_ok-show_page-in-Some-Page.ensures)

pub returns-in_ok-show_index-in-Some-Entries-clause-done : goal.returns-in_ok-show_index-in-Some-Entries-clause-done
returns-in_ok-show_index-in-Some-Entries-clause-done c =
    let says = rw (c.in-Some-Entries.is, c.in-Some-Entries.field-0-is) at c.in_ok-step.ensures in
    (showed_entries c.in-Some-Entries.number (option_map (λ index. index.entries) (engine_index c.args.engine.now.engine.core c.in-Some-Entries.number)), says.0, says.1, (refl, refl), c.in_ok-show_index-in-Some-Entries.ensures)

pub returns-in-None-clause-bad : goal.returns-in-None-clause-bad
returns-in-None-clause-bad c = rw c.in-None.is at c.in_ok-step.ensures
