use Rattle.std.proofs.Common.{arith}
use Rattle.page_sheet.proofs.Ids.{ids-as_one}
use Rattle.page_sheet.proofs.sheet.is_undeleted_by.Goals as goal

pub returns : goal.returns
returns c =
    rw (c.u64_at.ensures, c.from.ensures)
    (ids-as_one c.args.part.now c.args.inserter (λ i. omega (arith, c.type_inv.part i)) (omega (arith, c.ranges.inserter.fits)))
