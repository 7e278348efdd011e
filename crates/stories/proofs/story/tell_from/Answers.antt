use Rattle.std.proofs.Common.{◌++◌}
use Rattle.std.proofs.KnownBytes.{Appends-nil}
use Rattle.stories.proofs.DrawOutcomeLemmas.{all-known}
use Rattle.stories.proofs.ReadLemmas.{always}
use Rattle.stories.proofs.OutcomeLemmas.{picture-caused, first-untold, lines-untold-behind, lines-told-behind}
use Rattle.stories.proofs.story.tell_from.Goals as goal

pub returns-in-Err-clause-told : goal.returns-in-Err-clause-told
returns-in-Err-clause-told g c =
    always _ _ (λ input. first-untold c.args.engine.now c.args.line.now (c.args.pending.now ++ input) c.in-Err.fault _ _ (Appends-nil _) c.in-Err.ensures.fault)

pub returns-in-Err-clause-caused : goal.returns-in-Err-clause-caused
returns-in-Err-clause-caused g c = picture-caused c.args.engine.now c.in-Err.fault _ c.in-Err.ensures.fault

pub returns-in-Err-tell_lines-clause-told : goal.returns-in-Err-tell_lines-clause-told
returns-in-Err-tell_lines-clause-told g c =
    all-known _ _ _ (λ input tells. lines-untold-behind c.args.engine.now c.tell_first.new.engine c.tell_lines.new.engine c.args.line.now c.tell_first.new.items.items c.tell_lines.new.items.items c.tell_first.new.told.items
    c.tell_lines.new.told.items (c.args.pending.now ++ input) c.in-Err-tell_lines.fault _ _ c.in-Ok.ensures.same tells c.in-Err-tell_lines.ensures.quiet) c.in-Err-tell_lines.ensures.tells

pub returns-clause-told : goal.returns-clause-told
returns-clause-told g c =
    all-known _ _ _ (λ input tells. lines-told-behind c.args.engine.now c.tell_first.new.engine c.tell_lines.new.engine c.args.line.now c.args.items.now.items c.args.told.now.items c.tell_first.new.items.items
    c.tell_lines.new.items.items c.tell_first.new.told.items c.tell_lines.new.told.items (c.args.pending.now ++ input) c.as_slice.result.now c.as_slice-2.result.now c.write_page.result _ _ _ c.in-Ok.ensures.same
    c.requires.0 c.requires.1 c.in-Ok.ensures.item c.in-Ok.ensures.told tells c.in-Ok-tell_lines.ensures.quiet c.as_slice.ensures.value c.as_slice-2.ensures.value c.write_page.ensures.writes)
    c.in-Ok-tell_lines.ensures.tells
