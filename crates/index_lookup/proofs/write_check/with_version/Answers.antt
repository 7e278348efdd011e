use Rattle.std.proofs.Common.{Option, sym, subst}
use Rattle.xid_circle.specs.declared.Tid.{Tid}
use Rattle.visibility.specs.Reading.{IsSeenBy, IsNewerCommitFor, IsOtherWriterFor}
use Rattle.index_lookup.specs.Looking.{IsIdIn, IsPlaceIn, IsKept}
use Rattle.index_lookup.proofs.Searching.{kept-same}
use Rattle.index_lookup.proofs.Versions.{plain-seen, plain-no_newer_commit, plain-no_other_writer, kept-seen}
use Rattle.index_lookup.proofs.write_check.with_version.Goals as goal

pub returns-then-is_plain : goal.returns-then-is_plain
returns-then-is_plain c =
    let r = c.args.reader.now in
    let h = c.args.header.now in
    let plain = c.is_plain.ensures.0 c.if-is_plain.true in
    record {
      place = subst (λ (o : Option Tid). IsKept c.args.before.place (IsPlaceIn (IsSeenBy r) c.args.place h) o) (sym c.or.ensures)
          (kept-seen (IsSeenBy r) c.args.before.place c.args.place h (plain-seen r h plain));
      newer_commit = kept-same c.args.before.newer_commit (IsIdIn (IsNewerCommitFor r) h) (plain-no_newer_commit r h plain);
      other_writer = kept-same c.args.before.other_writer (IsIdIn (IsOtherWriterFor r) h) (plain-no_other_writer r h plain);
    }
