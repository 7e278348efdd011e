use Rattle.std.proofs.Common.{sym, ◌∙◌, refl, subst}
use Rattle.std.specs.Prelude.{IfSome, Option}
use Rattle.xid_circle.specs.declared.Xid.{Xid}
use Rattle.visibility.specs.Reading.{IsReadBy}
use Rattle.table_scans.proofs.Beside.{undeleted-seen, counted-maker}
use Rattle.table_scans.proofs.seeing.seen_beside.Goals as goal
use Rattle.table_scans.proofs.seeing.seen_beside.Goals.{then-not-is_frozen, else-not-is_frozen}

pub returns-in-Some-undeleted_row-clause-row : goal.returns-in-Some-undeleted_row-clause-row
returns-in-Some-undeleted_row-clause-row c =
    undeleted-seen c.args.reader.now c.args.page.now.slots c.args.slot c.in-Some.maker.0 c.in-Some-undeleted_row.row
    (subst (λ (o : Option Xid). IfSome o (λ x. IsReadBy c.args.reader.now x.0)) c.in-Some.is c.requires)
    (sym c.undeleted_row.ensures ∙ c.in-Some-undeleted_row.is)

pub returns-clause-counted : goal.returns-clause-counted
returns-clause-counted c = elim c.if-not-is_frozen.branch [
  | then-not-is_frozen w ↦ subst (λ (o : Option Xid). IfSome o (λ x. IsReadBy c.args.reader.now x.0)) (sym w.counted-is)
      (counted-maker c.args.reader.now c.in_ok-header.header (c.if-not-sees.ensures.0 refl) (sym w.if-not-is_frozen.ensures))
  | else-not-is_frozen w ↦ subst (λ (o : Option Xid). IfSome o (λ x. IsReadBy c.args.reader.now x.0)) (sym w.counted-is) c.requires
]
