use Rattle.std.proofs.Common.{◌∙◌, get_or, sym, arith}
use Rattle.std.proofs.lemmas.Bool.{OnTrue_from}
use Rattle.std.proofs.lemmas.Bool.Decides.{nat_tests}
use Rattle.std.proofs.lemmas.List.{get_or_default}
use Rattle.xid_circle.proofs.Tids.{same-tid}
use Rattle.dead_places.proofs.dead_set.stands_at.Goals as goal

pub returns-then-number-tids : goal.returns-then-number-tids
returns-then-number-tids c =
    let tid = c.args.tid in
    let at = get_or c.args.tids.now c.args.number (record { page = 0; slot = 0 }) in
    OnTrue_from c.eq.result _ (λ is. let same = sym c.eq.ensures ∙ is in (
      c.args.number,
      c.if-number-tids.true,
      get_or_default c.args.tids.now c.args.number tid _ c.if-number-tids.true ∙ same-tid at tid (grind (arith, nat_tests)) (grind (arith, nat_tests)),
    ))
