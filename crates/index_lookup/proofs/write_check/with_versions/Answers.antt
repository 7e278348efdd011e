use Rattle.std.proofs.Common.{◌+◌, sym, subst, ◌∙◌}
use Rattle.visibility.specs.Reading.{IsSeenBy, IsOtherWriterFor, IsNewerCommitFor}
use Rattle.index_lookup.proofs.Versions.{CheckTo, check-yet, check-more, check-past, kept-place, kept-ids}
use Rattle.index_lookup.proofs.write_check.with_versions.Goals as goal
use Rattle.index_lookup.proofs.write_check.with_versions.Goals.{in-Some, in_default}

pub loop-slot-init : goal.loop-slot-init
loop-slot-init c =
    let r = c.args.reader.now in
    check-yet (IsSeenBy r) (IsNewerCommitFor r) (IsOtherWriterFor r) c.args.number c.args.page.now.slots c.args.slots.now c.args.before

pub loop-slot-preserved : goal.loop-slot-preserved
loop-slot-preserved c =
    let r = c.args.reader.now in
    let slots = c.args.page.now.slots in
    let chain = c.args.slots.now in
    let i = c.loop-slot.slot-index in
    let old = c.loop-slot.check in
    elim c.match-header.branch [
      | in-Some w ↦ subst (CheckTo (IsSeenBy r) (IsNewerCommitFor r) (IsOtherWriterFor r) c.args.number slots chain c.args.before (i + 1)) (sym w.check-is)
          (check-more (IsSeenBy r) (IsNewerCommitFor r) (IsOtherWriterFor r) c.args.number slots chain c.args.before i w.in-Some.header old w.with_version-check.result
          c.loop-slot-test.true (sym c.header.ensures.value ∙ w.in-Some.is) c.loop-slot.invariant w.with_version-check.ensures.place w.with_version-check.ensures.newer_commit
          w.with_version-check.ensures.other_writer)
      | in_default w ↦ subst (CheckTo (IsSeenBy r) (IsNewerCommitFor r) (IsOtherWriterFor r) c.args.number slots chain c.args.before (i + 1)) (sym w.check-is)
          (check-past (IsSeenBy r) (IsNewerCommitFor r) (IsOtherWriterFor r) c.args.number slots chain c.args.before i old (sym c.header.ensures.value ∙ w.in_default.is) c.loop-slot.invariant)
    ]

pub returns : goal.returns
returns c =
    let r = c.args.reader.now in
    let s = c.loop-slot.invariant in
    let slots = c.args.page.now.slots in
    let chain = c.args.slots.now in
    let all = c.loop-slot-test.false in
    record {
      place = kept-place (IsSeenBy r) c.args.number slots chain c.loop-slot.slot-index c.args.before.place c.loop-slot.check.place all s.place;
      newer_commit = kept-ids (IsNewerCommitFor r) slots chain c.loop-slot.slot-index c.args.before.newer_commit c.loop-slot.check.newer_commit all s.newer_commit;
      other_writer = kept-ids (IsOtherWriterFor r) slots chain c.loop-slot.slot-index c.args.before.other_writer c.loop-slot.check.other_writer all s.other_writer;
    }
