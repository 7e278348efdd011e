use Rattle.std.proofs.Common.{not, subst, sym, List, Contains}
use Rattle.std.proofs.lemmas.Bool.{OnTrue_from}
use Rattle.xid_circle.specs.declared.Tid.{Tid}
use Rattle.entry_columns.specs.Gaps.{IsInside}
use Rattle.entry_columns.proofs.gap.holds.Goals as goal

pub returns : goal.returns
returns c =
    OnTrue_from (not c.is_dead.result) ((t : Tid) → Contains c.args.dead.now t → IsInside c.args.gap t) (λ alive t there.
    let listed : Contains c.as_slice-tids.result.now t = subst (λ (ts : List Tid). Contains ts t) (sym c.as_slice-tids.ensures) there in
    record {
      from = c.if-not-begin_from.ensures t listed;
      to = c.if-not-end_before.ensures t listed;
      other = λ same. let dead = c.is_dead.ensures.1 (subst (λ u. Contains c.args.dead.now u) same there) in absurd (cc (alive, dead));
    })
