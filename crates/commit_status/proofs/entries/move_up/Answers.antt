use Rattle.std.proofs.Common.{◌≡◌, ◌∙◌, ap, set, slice_index_or, sym}
use Rattle.std.proofs.lemmas.List.Edits.{map_over_more}
use Rattle.commit_status.specs.declared.entries.Child.{Child}
use Rattle.commit_status.specs.Entries.{placed_earlier}
use Rattle.commit_status.proofs.EntryLemmas.{get_or_twice}
use Rattle.commit_status.proofs.entries.move_up.Goals as goal

pub loop-child-preserved : goal.loop-child-preserved
loop-child-preserved c =
    let child : Child = slice_index_or c.loop-child.children c.loop-child.child-index (record { place = 0; parent = 0 }) in
    ap (λ place. set c.loop-child.children c.loop-child.child-index (record { place = place; parent = child.parent })) c.saturating_sub-child.ensures
    ∙ map_over_more (placed_earlier c.args.count) c.args.children.now c.loop-child.children c.loop-child.child-index child c.loop-child-test.true c.loop-child.invariant
    (get_or_twice c.loop-child.children c.loop-child.child-index (record { place = 0; parent = 0 }))
