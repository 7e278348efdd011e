use Rattle.visibility.specs.Reading.{IsSeenBy, IsOtherWriterFor, IsNewerCommitFor}
use Rattle.index_lookup.proofs.Versions.{CheckTo}
use Rattle.index_lookup.proofs.write_check.with_versions.Given as goal

abbrev pub invariant-loop-slot : goal.invariant-loop-slot
invariant-loop-slot l = CheckTo (IsSeenBy l.reader) (IsNewerCommitFor l.reader) (IsOtherWriterFor l.reader) l.number l.page.slots l.slots l.fn.before l.slot-index l.check
